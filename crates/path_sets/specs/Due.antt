-- Which families are due to the dual building of a tree: that of each unit alone, and what is due to the operations by
-- which the path families of its nodes are built, each from the path families of what the node reads.
use Rattle.std.specs.Prelude.{◌≡◌, ◌⊎◌, ℕ, false, List}
use Rattle.fault_definitions.specs.Trigger.{below}
use Rattle.fault_definitions.specs.Tree.{FaultTree, IsNodeOf, IsUnitOf, is_fdep}
use Rattle.tree_families.specs.{Due.IsDueToProducts, Due.IsDueToRecipe, Recipe.StandFor, Recipe.alone}
use Rattle.path_sets.specs.{Dual.path_recipe, Paths.IsPathFamily}

-- due to the dual recipe of the node, from the path families of what it reads
pub record IsDueToPathsOf (tree : FaultTree) (node : ℕ) (due : List (List ℕ)) : Type 0 where
  pub is_node : IsNodeOf tree node
  pub has_family : is_fdep tree node ≡ false
  pub families : List (List (List ℕ))
  pub path_families : StandFor (IsPathFamily tree) (below tree node) families
  pub is : IsDueToRecipe (path_recipe tree node families) due

-- the family of a unit of the tree alone, or one that is due to the dual recipe of a node
pub data IsDueToPaths (tree : FaultTree) : List (List ℕ) → Type 0 where
  one_unit : {unit : ℕ} → IsUnitOf tree unit → IsDueToPaths tree (alone unit)
  one_node : {node : ℕ} {due : List (List ℕ)} → IsDueToPathsOf tree node due → IsDueToPaths tree due

-- the family of the unit alone, or due to its products with the families of the triggers
abbrev pub IsDueToKeptUnit : ℕ → List (List (List ℕ)) → List (List ℕ) → Type 0
IsDueToKeptUnit unit families due = (due ≡ alone unit) ⊎ IsDueToProducts (alone unit) families due
