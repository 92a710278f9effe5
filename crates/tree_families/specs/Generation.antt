-- Families that are true where a test of sets says so: a set of units includes a set of the family exactly where it
-- passes. So a family stands for a node, where the test is whether the node fails.
use Rattle.std.specs.Prelude.{◌≡◌, ℕ, Bool, true, List, [], ◌∷◌, Contains}
use Rattle.unit_sets.specs.UnitList.{among, some_within}
use Rattle.fault_definitions.specs.{Reading.reads, Tree.FaultTree, Tree.IsUnitOf}
use Rattle.zdd_families.specs.Family.{IsFamily}

-- a family whose sets have units of the tree alone
pub record IsFamilyOf (tree : FaultTree) (family : List (List ℕ)) : Type 0 where
  pub is_family : IsFamily family
  pub units : (set : List ℕ) → Contains family set → (unit : ℕ) → among set unit ≡ true → IsUnitOf tree unit

-- each family of the list has sets with units of the tree alone
abbrev pub AreFamiliesOf : FaultTree → List (List (List ℕ)) → Type 0
AreFamiliesOf tree [] = Unit {0}
AreFamiliesOf tree (family ∷ families) = IsFamilyOf tree family × AreFamiliesOf tree families

-- a family of the tree's units: a set of units includes a set of it exactly where it passes the test
pub record IsTrueWhere (tree : FaultTree) (test : (ℕ → Bool) → Bool) (family : List (List ℕ)) : Type 0 where
  pub of_tree : IsFamilyOf tree family
  pub some_within : (within : ℕ → Bool) → some_within family within ≡ test within

-- the same of a node, by any reading of the nodes
abbrev pub IsTrueFor : FaultTree → ((ℕ → Bool) → ℕ → Bool) → ℕ → List (List ℕ) → Type 0
IsTrueFor tree reading node family = IsTrueWhere tree (λ within. reading within node) family

-- a family of the tree's units: a set of units includes a set of it exactly where the node reads failed
abbrev pub IsFamilyFor : FaultTree → ℕ → List (List ℕ) → Type 0
IsFamilyFor tree node family = IsTrueFor tree (reads tree) node family
