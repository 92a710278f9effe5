-- What a walk through a diagram has still to find.
use Rattle.std.specs.Prelude.{◌≡◌, ℕ, ◌+◌, ◌*◌, ◌<◌, ◌≤◌, List, [], ◌∷◌, ◌++◌, map, take, length, ◌==◌}
use Rattle.std.specs.Prelude.{if◌then◌else◌}
use Rattle.std.specs.List.{AllByRecursion}
use Rattle.unit_sets.specs.CutOrder.{weight, weight_limit}
use Rattle.zdd_families.specs.Map.{Knows, family}
use Rattle.zdd_shared_table.specs.Seats.{map_of, Seated, TableId}
use Rattle.cutset_listing.specs.{declared.walk.Pending.Pending, declared.walk.Walk.Walk, BySize.of_size, BySize.at_size}

-- each set behind these units
abbrev pub behind : List ℕ → List (List ℕ) → List (List ℕ)
behind front sets = map (λ set. front ++ set) sets

-- the sets of the pending nodes, each behind its units of the path; the last node comes first
abbrev pub still : (ℕ → ℕ) → List ℕ → List Pending → List (List ℕ)
still known path [] = []
still known path (node ∷ later) = still known path later ++ behind (take node.before path) (family known node.node)

-- the seat is one of the store, and knows the reference
pub record CanRead (store : TableId) (seat : Seated) (r : ℕ) : Type 0 where
  pub own : seat.store ≡ store
  pub knows : Knows (map_of seat) r

-- a pending node is known, and so many units of the path stand before it
abbrev pub IsPending : (ℕ → ℕ) → List ℕ → Pending → Type 0
IsPending known path node = Knows known node.node × (node.before ≤ length path)

-- no node stands further up the path than the later ones
abbrev pub Nested : List Pending → Type 0
Nested [] = Unit {0}
Nested (node ∷ later) = AllByRecursion (λ (other : Pending). node.before ≤ other.before) later × Nested later

-- a node that stands at the end of a walk's path
abbrev pub ahead : Walk → ℕ → Pending
ahead walk node = record { node = node; before = length walk.path.items }

-- a node more to be visited; one without sets is left out
abbrev pub with_later : List Pending → Pending → List Pending
with_later nodes node = if node.node == 0 then nodes else nodes ++ node ∷ []

-- what was found, and what is found at these nodes, are the sets of a family, in each size in their order
pub record IsOn (known : ℕ → ℕ) (sets : List (List ℕ)) (path : List ℕ) (nodes : List Pending)
    (found : List (List (List ℕ))) (weighs : ℕ) : Type 0 where
  pub each_pending : AllByRecursion (IsPending known path) nodes
  pub nested : Nested nodes
  pub by_size : (size : ℕ) → at_size found size ++ of_size size (still known path nodes) ≡ of_size size sets
  pub weight : weighs + weight (still known path nodes) ≡ weight sets

-- a walk stands so where these nodes are left
abbrev pub Stands : (ℕ → ℕ) → List (List ℕ) → Walk → List Pending → Type 0
Stands known sets walk nodes = IsOn known sets walk.path.items nodes walk.found walk.weight

-- wherever a walk stood with the first nodes left, it stands with the second
abbrev pub WalksOn : (ℕ → ℕ) → Walk → List Pending → Walk → List Pending → Type 0
WalksOn known old nodes new nodes' = (sets : List (List ℕ)) → Stands known sets old nodes → Stands known sets new nodes'

-- wherever a walk stands so, the sets weigh more than a list may
abbrev pub IsTooHeavy : (ℕ → ℕ) → Walk → List Pending → Type 0
IsTooHeavy known walk nodes = (sets : List (List ℕ)) → Stands known sets walk nodes → weight_limit < weight sets

-- a walk has found the units of its path as one set more, and is else as before
pub record Keeps (old new : Walk) : Type 0 where
  pub path : new.path.items ≡ old.path.items
  pub pending : new.pending.items ≡ old.pending.items
  pub found : (size : ℕ) → at_size new.found size ≡ at_size old.found size ++ of_size size (old.path.items ∷ [])
  pub weight : new.weight ≡ old.weight + (1 + length old.path.items)

-- a bound on the visits that the nodes take
abbrev pub visits_left : (ℕ → ℕ) → List Pending → ℕ
visits_left known [] = 0
visits_left known (node ∷ later) = (1 + 2 * weight (family known node.node)) + visits_left known later

-- the same with a node at the end of a walk's path
abbrev pub visits_ahead : (ℕ → ℕ) → Walk → ℕ → ℕ
visits_ahead known walk node = visits_left known (walk.pending.items ++ ahead walk node ∷ [])

-- a walk goes on from a node at the end of its path to another: nothing is found yet, and no more visits are left
pub record Descends (known : ℕ → ℕ) (old : Walk) (node : ℕ) (new : Walk) (next : ℕ) : Type 0 where
  pub on : WalksOn known old (old.pending.items ++ ahead old node ∷ []) new (new.pending.items ++ ahead new next ∷ [])
  pub weight : new.weight ≡ old.weight
  pub fewer : visits_ahead known new next ≤ visits_ahead known old node
