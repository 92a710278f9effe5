-- The answers of dual recipes as answers of a node.
use Rattle.std.proofs.Common.{Result, ◌≡◌, ℕ, false, List, sym, subst, inl, inr}
use Rattle.std.proofs.lemmas.Bool.{cond-true, cond-false, le-ltb, lt-ltb}
use Rattle.fault_definitions.specs.{Trigger.below, WellFormed.IsTree}
use Rattle.fault_definitions.specs.Tree.{FaultTree, IsGateOf, IsNodeOf, IsUnitOf, is_fdep, kind_of, unit_count}
use Rattle.zdd_families.specs.{Due.IsDueToMinimal, Minimal.IsMinimal, Map.family}
use Rattle.tree_families.specs.Due.{IsDueToRecipe, due_to_products, due_to_end}
use Rattle.tree_families.specs.Recipe.{IsMadeBy, IsProductOfAll, Recipe, StandFor, alone, gate_recipe, products}
use Rattle.zdd_shared_table.specs.Seats.{Seated, map_of}
use Rattle.zdd_product.specs.Seats.{Gave}
use Rattle.zdd_nodes.proofs.{Answers.answer_as, Answers.answer_then, NodeAnswers.Answer, NodeAnswers.FollowsRecipe}
use Rattle.zdd_nodes.proofs.NodeAnswers.{at_recipe}
use Rattle.path_sets.specs.{Dual.dual_kind, Dual.path_recipe, Paths.IsPathFamily}
use Rattle.path_sets.specs.Due.{IsDueToKeptUnit, IsDueToPaths, one_node, one_unit}
use Rattle.path_sets.proofs.PathFamilies.{recipe-path_family}

pub gate_recipe_is : (tree : FaultTree) (gate : ℕ) (fs : List (List (List ℕ))) → IsGateOf tree gate
    → path_recipe tree gate fs ≡ gate_recipe (dual_kind (kind_of tree gate)) fs
gate_recipe_is tree gate fs is_gate =
    cond-true _ _ _ (lt-ltb (unit_count tree) gate is_gate.0)

unit_recipe_is : (tree : FaultTree) (unit : ℕ) (fs : List (List (List ℕ))) → IsUnitOf tree unit
    → path_recipe tree unit fs ≡ products (alone unit) fs
unit_recipe_is tree unit fs is_unit =
    cond-false _ _ _ (le-ltb (unit_count tree) unit is_unit.1)

module _ (tree : FaultTree) (node : ℕ) (is_node : IsNodeOf tree node) (read : is_fdep tree node ≡ false)
    (fs : List (List (List ℕ))) (stand : StandFor (IsPathFamily tree) (below tree node) fs) where
  -- what is due to the dual recipe of the node is due to the dual building
  path_due : (h : List (List ℕ)) → IsDueToRecipe (path_recipe tree node fs) h → IsDueToPaths tree h
  path_due h is =
      one_node (record { is_node = is_node; has_family = read; families = fs; path_families = stand; is = is })

  -- what the dual recipe of a gate makes
  pub gate_made : {E : Type 0} {recipe : Recipe} → path_recipe tree node fs ≡ recipe
      → (before after : Seated) (result : Result ℕ E) → FollowsRecipe recipe before after result
      → Answer (IsMadeBy (path_recipe tree node fs)) (IsDueToPaths tree) before after result
  gate_made same before after result m =
      answer_as (IsMadeBy (path_recipe tree node fs)) (IsDueToRecipe (path_recipe tree node fs))
      (IsMadeBy (path_recipe tree node fs)) (IsDueToPaths tree) (λ h is. is) path_due before after result
      (at_recipe same before after result m)

  unit_due : IsUnitOf tree node → (h : List (List ℕ)) → IsDueToKeptUnit node fs h → IsDueToPaths tree h
  unit_due is_unit h (inl same) = subst (IsDueToPaths tree) (sym same) (one_unit is_unit)
  unit_due is_unit h (inr due) =
      path_due h (subst (λ (q : Recipe). IsDueToRecipe q h) (sym (unit_recipe_is tree node fs is_unit))
      (due_to_products due))

  -- and of a unit
  pub unit_kept : {E : Type 0} → IsUnitOf tree node → (before after : Seated) (result : Result ℕ E)
      → Answer (IsProductOfAll (alone node) fs) (IsDueToKeptUnit node fs) before after result
      → Answer (IsMadeBy (path_recipe tree node fs)) (IsDueToPaths tree) before after result
  unit_kept is_unit before after result m =
      answer_as (IsProductOfAll (alone node) fs) (IsDueToKeptUnit node fs) (IsMadeBy (path_recipe tree node fs))
      (IsDueToPaths tree)
      (λ h is. subst (λ (q : Recipe). IsMadeBy q h) (sym (unit_recipe_is tree node fs is_unit)) is)
      (unit_due is_unit) before after result m

  -- its minimal sets are the path family of the node
  pub node_ends : {E : Type 0} → IsTree tree → {start mid : Seated} (after : Seated) {made : ℕ}
      → Gave (IsMadeBy (path_recipe tree node fs)) (IsDueToPaths tree) start mid made → (result : Result ℕ E)
      → Answer (IsMinimal (family (map_of mid) made)) (IsDueToMinimal (family (map_of mid) made)) mid after result
      → Answer (IsPathFamily tree node) (IsDueToPaths tree) start after result
  node_ends kept {mid} after {made} gave result m =
      let had = family (map_of mid) made in
      answer_then (IsPathFamily tree node) after gave.on result
      (answer_as (IsMinimal had) (IsDueToMinimal had) (IsPathFamily tree node) (IsDueToPaths tree)
      (λ h least. recipe-path_family tree kept node is_node read fs had h stand gave.known.1 least)
      (λ h due. path_due h (due_to_end gave.known.1 due)) mid after result m)
