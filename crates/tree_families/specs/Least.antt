-- Least sets and least families by a test of sets of units.
use Rattle.std.specs.Prelude.{◌≡◌, ℕ, Bool, true, false, List, All, Contains}
use Rattle.std.specs.{Cmp.Lexicographic.slice_cmp, List.Sorted.IsStrictlySortedBy, Ordering.nat_cmp}
use Rattle.unit_sets.specs.UnitList.{among, without_unit, IsRising}
use Rattle.fault_definitions.specs.Tree.{FaultTree, IsUnitOf}

-- a set of the tree's units that passes the test, and no longer does without any one of its members
pub record IsLeastSet (tree : FaultTree) (test : (ℕ → Bool) → Bool) (set : List ℕ) : Type 0 where
  pub rising : IsRising set
  pub units : All (IsUnitOf tree) set
  pub passes : test (among set) ≡ true
  pub needed : All (λ member. test (among (without_unit member set)) ≡ false) set

-- exactly the least sets, each once, in lexicographic order
pub record IsLeastFamily (tree : FaultTree) (test : (ℕ → Bool) → Bool) (family : List (List ℕ)) : Type 0 where
  pub sound : All (IsLeastSet tree test) family
  pub complete : (set : List ℕ) → IsLeastSet tree test set → Contains family set
  pub ordered : IsStrictlySortedBy (slice_cmp nat_cmp) family
