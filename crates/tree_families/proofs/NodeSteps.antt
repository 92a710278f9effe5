-- Each operation by which the family of a node is built: what is due to it is due to the tree.
use Rattle.std.specs.Prelude.{◌≡◌, ℕ, ◌<◌, true, false, List, [], ◌∷◌, get_or, length, take}
use Rattle.std.proofs.Common.{refl, sym, ◌∙◌, ap, subst}
use Rattle.fault_words.specs.declared.kind.GateKind.{GateKind}
use Rattle.fault_words.specs.declared.kind.GateKind.TheVariants.{Or, Votes, Por, Fdep}
use Rattle.fault_definitions.specs.{CutFamily.IsCutFamily, Trigger.triggers_of}
use Rattle.fault_definitions.specs.Tree.{FaultTree, IsGateOf, IsUnitOf, inputs_of, is_fdep_kind, kind_of}
use Rattle.zdd_families.specs.Due.{IsDueToUnion, IsDueToProduct, IsDueToMinimal, IsDueToVotes}
use Rattle.zdd_families.specs.Product.{IsProduct}
use Rattle.tree_families.proofs.Building.{gate-due, unit-due}
use Rattle.tree_families.specs.Due.{IsDueToRecipe, due_to_unions, due_to_products, due_to_votes, due_to_end}
use Rattle.tree_families.specs.Due.{IsDueToTree}
use Rattle.tree_families.proofs.DueSteps.{due-to_next_union, due-to_next_product, due-to_next_minimal}
use Rattle.tree_families.specs.Recipe.{needs_all, Recipe, products, IsMadeBy, IsUnionOfAll, IsProductOfAll}
use Rattle.tree_families.specs.Recipe.{all_multiplied, gate_recipe, alone, StandFor}

-- a gate that needs all of its inputs multiplies their families
pub needs_all_recipe : (kind : GateKind) (families : List (List (List ℕ))) → needs_all kind ≡ true
    → gate_recipe kind families ≡ all_multiplied families
needs_all_recipe Or families all = absurd cc
needs_all_recipe (Votes least of) families all = absurd cc
needs_all_recipe Por families all = absurd cc
needs_all_recipe Fdep families all = absurd cc
needs_all_recipe _ families all = refl

no_fdep : (kind : GateKind) → needs_all kind ≡ true → is_fdep_kind kind ≡ false
no_fdep Fdep all = absurd cc
no_fdep _ all = refl

module _ (tree : FaultTree) (unit : ℕ) (is_unit : IsUnitOf tree unit) (families : List (List (List ℕ)))
    (stand : StandFor (IsCutFamily tree) (triggers_of tree unit) families) where
  pub unit_union-due : (place : ℕ) (made due : List (List ℕ)) → place < length families
      → IsUnionOfAll (alone unit) (take place families) made → IsDueToUnion made (get_or families place []) due
      → IsDueToTree tree due
  unit_union-due place made due short is h =
      unit-due tree unit is_unit families due stand
      (due_to_unions (due-to_next_union place (alone unit) families made due short is h))

  pub unit_minimal-due : (made due : List (List ℕ)) → IsUnionOfAll (alone unit) families made → IsDueToMinimal made due
      → IsDueToTree tree due
  unit_minimal-due made due is h = unit-due tree unit is_unit families due stand (due_to_end is h)

module _ (tree : FaultTree) (gate : ℕ) (is_gate : IsGateOf tree gate) where
  -- due to the recipe of the gate's kind
  by_kind : {kind : GateKind} (families : List (List (List ℕ))) {due : List (List ℕ)} → kind_of tree gate ≡ kind
      → is_fdep_kind kind ≡ false → StandFor (IsCutFamily tree) (inputs_of tree gate) families
      → IsDueToRecipe (gate_recipe kind families) due → IsDueToTree tree due
  by_kind families {due} same read stand h =
      gate-due tree gate is_gate (ap is_fdep_kind same ∙ read) families due stand
      (subst (λ (q : GateKind). IsDueToRecipe (gate_recipe q families) due) (sym same) h)

  by_products : (first : List (List ℕ)) (others : List (List (List ℕ))) {due : List (List ℕ)}
      → needs_all (kind_of tree gate) ≡ true → StandFor (IsCutFamily tree) (inputs_of tree gate) (first ∷ others)
      → IsDueToRecipe (products first others) due → IsDueToTree tree due
  by_products first others {due} all stand h =
      gate-due tree gate is_gate (no_fdep (kind_of tree gate) all) (first ∷ others) due stand
      (subst (λ (q : Recipe). IsDueToRecipe q due) (sym (needs_all_recipe (kind_of tree gate) (first ∷ others) all)) h)

  pub or_union-due : (first : List (List ℕ)) (others : List (List (List ℕ))) → kind_of tree gate ≡ Or
      → StandFor (IsCutFamily tree) (inputs_of tree gate) (first ∷ others) → (place : ℕ) (made due : List (List ℕ))
      → place < length others → IsUnionOfAll first (take place others) made
      → IsDueToUnion made (get_or others place []) due → IsDueToTree tree due
  or_union-due first others same stand place made due short is h =
      by_kind (first ∷ others) same refl stand
      (due_to_unions (due-to_next_union place first others made due short is h))

  pub all_product-due : (first : List (List ℕ)) (others : List (List (List ℕ))) → needs_all (kind_of tree gate) ≡ true
      → StandFor (IsCutFamily tree) (inputs_of tree gate) (first ∷ others) → (place : ℕ) (made due : List (List ℕ))
      → place < length others → IsProductOfAll first (take place others) made
      → IsDueToProduct made (get_or others place []) due → IsDueToTree tree due
  all_product-due first others all stand place made due short is h =
      by_products first others all stand (due_to_products (due-to_next_product place first others made due short is h))

  pub all_minimal-due : (first : List (List ℕ)) (others : List (List (List ℕ))) → needs_all (kind_of tree gate) ≡ true
      → StandFor (IsCutFamily tree) (inputs_of tree gate) (first ∷ others)
      → (place : ℕ) (made product due : List (List ℕ)) → place < length others
      → IsProductOfAll first (take place others) made → IsProduct made (get_or others place []) product
      → IsDueToMinimal product due → IsDueToTree tree due
  all_minimal-due first others all stand place made product due short is next h =
      by_products first others all stand (due_to_products
      (due-to_next_minimal place first others made product due short is next h))

  pub votes-due : (least of : ℕ) (families : List (List (List ℕ))) (due : List (List ℕ))
      → kind_of tree gate ≡ Votes least of → StandFor (IsCutFamily tree) (inputs_of tree gate) families
      → IsDueToVotes least families due → IsDueToTree tree due
  votes-due least of families due same stand h = by_kind families same refl stand (due_to_votes h)

  pub gate_minimal-due : (families : List (List (List ℕ))) (made due : List (List ℕ))
      → is_fdep_kind (kind_of tree gate) ≡ false → StandFor (IsCutFamily tree) (inputs_of tree gate) families
      → IsMadeBy (gate_recipe (kind_of tree gate) families) made → IsDueToMinimal made due → IsDueToTree tree due
  gate_minimal-due families made due read stand is h =
      gate-due tree gate is_gate read families due stand (due_to_end is h)
