-- What follows from the definitions of `specs/OrdersOfUnits`.
use Rattle.std.specs.Prelude.{ℕ, zero, suc, Bool, true, false, nat_le, if◌then◌else◌, List, [], ◌∷◌, length, map}
use Rattle.std.specs.Prelude.{All, Some, None, unwrap_or}
use Rattle.std.specs.List.{flat_map}
use Rattle.std.proofs.lemmas.List.{length-map}
use Rattle.std.proofs.lemmas.List.Elements.{All-nil, All-cons, All-head, All-tail, All-append, All-map, All-weaker}
use Rattle.std.proofs.lemmas.List.Elements.{All-filter}
use Rattle.fault_definitions.specs.{Tree.FaultTree, Tree.IsUnitOf, FailingOrder.is_failing}
use Rattle.cut_sequences.specs.Permutations.{picks, arrangements, permutations}
use Rattle.cut_sequences.specs.Orders.{failing_orders, orders_of, order_lists}
use Rattle.cut_texts.specs.OrdersOfUnits.{AreOfUnits, AreOrdersOf}

-- ---- the failing orders of cut sets of a tree are such

module _ (P : ℕ → Type 0) where
  -- something holds of the unit picked, and of the others
  abbrev IsFine : (ℕ × List ℕ) → Type 0
  IsFine pick = P pick.0 × All P pick.1

  picks_fine : (units : List ℕ) → All P units → All IsFine (picks units)
  picks_fine [] all = All-nil IsFine
  picks_fine (unit ∷ units) all =
      let first = All-head P unit units all in
      let others = All-tail P unit units all in
      All-cons IsFine (unit, units) (map (λ (pick : ℕ × List ℕ). (pick.0, unit ∷ pick.1)) (picks units)) (first, others)
      (All-map IsFine (λ (pick : ℕ × List ℕ). (pick.0, unit ∷ pick.1)) (picks units)
      (All-weaker IsFine (λ pick. IsFine (pick.0, unit ∷ pick.1)) (λ pick fine.
      (fine.0, All-cons P unit pick.1 first fine.1)) (picks units) (picks_fine units others)))

  joined_fine : {X : Type 0} (f : X → List (List ℕ)) (xs : List X) → All (λ x. All (All P) (f x)) xs
      → All (All P) (flat_map f xs)
  joined_fine f [] all = All-nil (All P)
  joined_fine f (x ∷ xs) all =
      All-append (All P) (f x) (flat_map f xs) (All-head (λ x. All (All P) (f x)) x xs all)
      (joined_fine f xs (All-tail (λ x. All (All P) (f x)) x xs all))

  arrangements_fine : (others : ℕ) (units : List ℕ) → All P units → All (All P) (arrangements others units)
  arrangements_fine zero units all = All-cons (All P) [] [] (All-nil P) (All-nil (All P))
  arrangements_fine (suc others) units all =
      joined_fine (λ (pick : ℕ × List ℕ).
      map (λ (order : List ℕ). pick.0 ∷ order) (arrangements others pick.1)) (picks units)
      (All-weaker IsFine (λ pick. All (All P) (map (λ (order : List ℕ). pick.0 ∷ order) (arrangements others pick.1)))
      (λ pick fine.
      All-map (All P) (λ (order : List ℕ). pick.0 ∷ order) (arrangements others pick.1)
      (All-weaker (All P) (λ order. All P (pick.0 ∷ order)) (λ order rest.
      All-cons P pick.0 order fine.0 rest) (arrangements others pick.1)
      (arrangements_fine others pick.1 fine.1)))
      (picks units) (picks_fine units all))

  -- where they are listed
  listed_fine : (small : Bool) (orders : List (List ℕ)) → All (All P) orders
      → All (All P) (unwrap_or (if small then Some orders else None) [])
  listed_fine true orders all = all
  listed_fine false orders all = All-nil (All P)

failing_fine : (tree : FaultTree) (set : List ℕ) → All (IsUnitOf tree) set
    → All (All (IsUnitOf tree)) (failing_orders tree set)
failing_fine tree set all = All-filter (is_failing tree) (All (IsUnitOf tree)) (permutations set)
    (arrangements_fine (IsUnitOf tree) (length set) set all)

-- the failing orders of each cut set of at most so many members
pub AreOrdersOf-order_lists : (tree : FaultTree) (cuts : List (List ℕ)) (most : ℕ) → All (All (IsUnitOf tree)) cuts
    → AreOrdersOf tree cuts (order_lists tree cuts most)
AreOrdersOf-order_lists tree cuts most all = record {
  each = length-map cuts (orders_of tree most);
  units = All-map (AreOfUnits tree) (orders_of tree most) cuts
      (All-weaker (All (IsUnitOf tree)) (λ set. AreOfUnits tree (orders_of tree most set))
      (λ set units. listed_fine (IsUnitOf tree) (nat_le (length set) most) (failing_orders tree set)
      (failing_fine tree set units)) cuts all);
}
