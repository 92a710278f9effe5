-- What the search for the failing orders of a set does where it goes on from some units that have failed.
use Rattle.std.specs.Prelude.{◌≡◌, ℕ, ◌+◌, ◌≤◌, true, false, List, [], ◌∷◌, ◌++◌, length, map, filter, All, Result, Ok}
use Rattle.std.specs.Prelude.{Err, OnOk, remove, slice_index}
use Rattle.unit_sets.specs.UnitList.{among, IsRising}
use Rattle.fault_definitions.specs.{Tree.FaultTree, Tree.IsUnitOf, WellFormed.IsTree, FailingOrder.is_failing}
use Rattle.replay_semantics.specs.Replayed.{Replayed}
use Rattle.cut_sequences.specs.{declared.refusal.OrderEnd.OrderEnd, declared.search.Search.Search, Orders.order_limit}
use Rattle.cut_sequences.specs.{Orders.IsOver, Permutations.permutations}

-- the units that are left can fail after those of an order
pub record CanGoOn (tree : FaultTree) (order left : List ℕ) : Type 0 where
  pub kept : IsTree tree
  pub rising : IsRising left
  pub units : All (IsUnitOf tree) left
  pub apart : (unit : ℕ) → among left unit ≡ true → among order unit ≡ false

-- the failing orders that begin so, and go on with all units that are left
abbrev pub failing_from : FaultTree → List ℕ → List ℕ → List (List ℕ)
failing_from tree order left = filter (is_failing tree) (map (λ (rest : List ℕ). order ++ rest) (permutations left))

-- the same where the unit of a place fails next
abbrev pub failing_after : FaultTree → List ℕ → List ℕ → ℕ → List (List ℕ)
failing_after tree order left i = failing_from tree (order ++ slice_index left i ∷ []) (remove left i)

-- some orders are listed after those before, or they and those before are too many
abbrev pub Lists : {T : Type 0} → List (List ℕ) → List (List ℕ) → List (List ℕ) → Result T OrderEnd → Type 0
Lists before after due (Ok _) = (after ≡ before ++ due) × (length after ≤ order_limit)
Lists before after due (Err end) = IsOver (length before + length due) end

-- no unit of the tree has failed
abbrev pub none_failed : FaultTree → Replayed
none_failed tree = record { tree = tree; order = [] }

-- a search for orders of the tree begins: none is listed
pub record IsFirst (tree : FaultTree) (search : Search) : Type 0 where
  pub kept : IsTree tree
  pub replay : search.replay ≡ none_failed tree
  pub orders : search.orders ≡ []

-- the search can go on with these units, and has no more orders than may be listed
pub record CanSearch (search : Search) (left : List ℕ) : Type 0 where
  pub units : CanGoOn search.replay.tree search.replay.order left
  pub few : length search.orders ≤ order_limit

-- the failing orders that begin with the units that have failed in a search, and go on with these
abbrev pub due : Search → List ℕ → List (List ℕ)
due search left = failing_from search.replay.tree search.replay.order left

-- the same units have failed in a search as before, and these are left
pub record IsBack (before after : Search) (units : List ℕ) : Type 0 where
  pub replay : after.replay ≡ before.replay
  pub left : after.left.items ≡ units

-- the search has listed the orders that are due, and is back
abbrev pub Searches : {T : Type 0} → Search → Search → List ℕ → List (List ℕ) → Result T OrderEnd → Type 0
Searches before after left due result =
    OnOk result (IsBack before after left) × Lists before.orders after.orders due result
