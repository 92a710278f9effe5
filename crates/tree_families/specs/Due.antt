-- Which families are due to a tree: that of each unit alone, and what is due to the operations by which
-- the families of its nodes are built, each from the cut families of what the node reads.
use Rattle.std.specs.Prelude.{◌≡◌, ℕ, false, List, ◌∷◌}
use Rattle.fault_definitions.specs.{CutFamily.IsCutFamily, Trigger.below}
use Rattle.fault_definitions.specs.Tree.{FaultTree, IsNodeOf, IsUnitOf, is_fdep}
use Rattle.zdd_families.specs.{Union.IsUnion, Product.IsProduct, Minimal.IsMinimal}
use Rattle.zdd_families.specs.Due.{IsDueToUnion, IsDueToProduct, IsDueToMinimal, IsDueToVotes}
use Rattle.tree_families.specs.Recipe.{Recipe, unions, products, votes, IsMadeBy, alone, node_recipe, StandFor}

-- the next union is the cause, or one after it
pub data IsDueToUnions : List (List ℕ) → List (List (List ℕ)) → List (List ℕ) → Type 0 where
  next_union : {first family due : List (List ℕ)} {others : List (List (List ℕ))} → IsDueToUnion first family due
      → IsDueToUnions first (family ∷ others) due
  later_union : {first family union due : List (List ℕ)} {others : List (List (List ℕ))} → IsUnion first family union
      → IsDueToUnions union others due → IsDueToUnions first (family ∷ others) due

-- the next product is the cause, or the minimal sets of it, or one after them
pub data IsDueToProducts : List (List ℕ) → List (List (List ℕ)) → List (List ℕ) → Type 0 where
  next_product : {first family due : List (List ℕ)} {others : List (List (List ℕ))} → IsDueToProduct first family due
      → IsDueToProducts first (family ∷ others) due
  next_minimal : {first family product due : List (List ℕ)} {others : List (List (List ℕ))}
      → IsProduct first family product → IsDueToMinimal product due → IsDueToProducts first (family ∷ others) due
  later_product : {first family product least due : List (List ℕ)} {others : List (List (List ℕ))}
      → IsProduct first family product → IsMinimal product least → IsDueToProducts least others due
      → IsDueToProducts first (family ∷ others) due

-- due to an operation of the recipe, or to that of the minimal sets with which it ends
pub data IsDueToRecipe : Recipe → List (List ℕ) → Type 0 where
  due_to_unions : {first due : List (List ℕ)} {others : List (List (List ℕ))} → IsDueToUnions first others due
      → IsDueToRecipe (unions first others) due
  due_to_products : {first due : List (List ℕ)} {others : List (List (List ℕ))} → IsDueToProducts first others due
      → IsDueToRecipe (products first others) due
  due_to_votes : {least : ℕ} {families : List (List (List ℕ))} {due : List (List ℕ)} → IsDueToVotes least families due
      → IsDueToRecipe (votes least families) due
  due_to_end : {recipe : Recipe} {made due : List (List ℕ)} → IsMadeBy recipe made → IsDueToMinimal made due
      → IsDueToRecipe recipe due

-- due to the recipe of the node, from the cut families of what it reads
pub record IsDueToNode (tree : FaultTree) (node : ℕ) (due : List (List ℕ)) : Type 0 where
  pub is_node : IsNodeOf tree node
  pub has_family : is_fdep tree node ≡ false
  pub families : List (List (List ℕ))
  pub cut_families : StandFor (IsCutFamily tree) (below tree node) families
  pub is : IsDueToRecipe (node_recipe tree node families) due

-- the family of a unit of the tree alone, or one that is due to a node of the tree
pub data IsDueToTree (tree : FaultTree) : List (List ℕ) → Type 0 where
  one_unit : {unit : ℕ} → IsUnitOf tree unit → IsDueToTree tree (alone unit)
  one_node : {node : ℕ} {due : List (List ℕ)} → IsDueToNode tree node due → IsDueToTree tree due
