-- The recipe of a node, followed to its end from the cut families of what the node reads, gives the
-- node's cut family.
use Rattle.std.specs.Prelude.{◌≡◌, ℕ, false, List, [], ◌∷◌, All, map}
use Rattle.std.proofs.Common.{sym, subst, arith}
use Rattle.std.proofs.lemmas.Bool.{and_left, and_right, cond-true, cond-false, lt-ltb, le-ltb}
use Rattle.std.proofs.lemmas.List.Elements.{All-head, All-tail}
use Rattle.fault_definitions.specs.{CutFamily.IsCutFamily, Trigger.below, Trigger.triggers_of, WellFormed.IsTree}
use Rattle.fault_definitions.proofs.RankLaws.{below_are_nodes}
use Rattle.fault_definitions.specs.Tree.{FaultTree, IsGateOf, IsNodeOf, IsUnitOf, inputs_of, is_above_units, is_fdep}
use Rattle.fault_definitions.specs.Tree.{is_fdep_kind, kind_of, unit_count}
use Rattle.zdd_families.specs.Minimal.{IsMinimal}
use Rattle.tree_families.specs.Generation.{IsFamilyFor}
use Rattle.tree_families.specs.Due.{IsDueToRecipe, IsDueToTree, one_node}
use Rattle.tree_families.specs.Recipe.{Recipe, unions, IsMadeBy, IsUnionOfAll, alone, gate_recipe, node_recipe}
use Rattle.tree_families.specs.Recipe.{StandFor}
use Rattle.tree_families.proofs.{CutFamilies.cut_family-minimal, FailingSets.IsFamilyFor-cut_family}
use Rattle.tree_families.proofs.{Steps.IsFamilyFor-made}

-- a table that has a family for each of the nodes has the families in their order
pub StandFor-table : (stands : ℕ → List (List ℕ) → Type 0) (table : ℕ → List (List ℕ)) (nodes : List ℕ)
    → All (λ node. stands node (table node)) nodes → StandFor stands nodes (map table nodes)
StandFor-table stands table [] all = tt
StandFor-table stands table (node ∷ nodes) all = (
  All-head (λ n. stands n (table n)) node nodes all,
  StandFor-table stands table nodes (All-tail (λ n. stands n (table n)) node nodes all),
)

pub all_generate : {tree : FaultTree} → IsTree tree → (nodes : List ℕ) (families : List (List (List ℕ)))
    → All (IsNodeOf tree) nodes → StandFor (IsCutFamily tree) nodes families
    → StandFor (IsFamilyFor tree) nodes families
all_generate kept [] [] are stand = tt
all_generate {tree} kept (node ∷ nodes) (family ∷ families) are stand = (
  IsFamilyFor-cut_family tree kept node (All-head (IsNodeOf tree) node nodes are) family stand.0,
  all_generate kept nodes families (All-tail (IsNodeOf tree) node nodes are) stand.1,
)
all_generate kept nodes families are stand = absurd stand

-- what a node's recipe makes generates the node
pub recipe-generates : (tree : FaultTree) → IsTree tree → (node : ℕ) → IsNodeOf tree node
    → (families : List (List (List ℕ))) (made : List (List ℕ)) → StandFor (IsCutFamily tree) (below tree node) families
    → IsMadeBy (node_recipe tree node families) made → IsFamilyFor tree node made
recipe-generates tree kept node is_node families made stand is =
    IsFamilyFor-made tree kept node is_node families made
    (all_generate kept (below tree node) families (below_are_nodes kept node) stand) is

-- and its minimal sets are the node's cut family
pub recipe-cut_family : {tree : FaultTree} → IsTree tree → {node : ℕ} → IsNodeOf tree node
    → (families : List (List (List ℕ))) {made least : List (List ℕ)}
    → StandFor (IsCutFamily tree) (below tree node) families → IsMadeBy (node_recipe tree node families) made
    → IsMinimal made least → IsCutFamily tree node least
recipe-cut_family {tree} kept {node} is_node families {made} {least} stand is minimal =
    cut_family-minimal tree node made least (recipe-generates tree kept node is_node families made stand is) minimal

-- ---- by the kind of the node

-- what a gate reads are its inputs, and a unit its triggers
pub gate_below : (tree : FaultTree) (gate : ℕ) → IsGateOf tree gate → below tree gate ≡ inputs_of tree gate
gate_below tree gate is_gate =
    cond-true _ _ _ (lt-ltb _ _ is_gate.0)

pub unit_below : (tree : FaultTree) (unit : ℕ) → IsUnitOf tree unit → below tree unit ≡ triggers_of tree unit
unit_below tree unit is_unit =
    cond-false _ _ _ (le-ltb _ _ is_unit.1)

pub gate_recipe_is : (tree : FaultTree) (gate : ℕ) (families : List (List (List ℕ))) → IsGateOf tree gate
    → node_recipe tree gate families ≡ gate_recipe (kind_of tree gate) families
gate_recipe_is tree gate families is_gate =
    cond-true _ _ _ (lt-ltb _ _ is_gate.0)

pub unit_recipe_is : (tree : FaultTree) (unit : ℕ) (families : List (List (List ℕ))) → IsUnitOf tree unit
    → node_recipe tree unit families ≡ unions (alone unit) families
unit_recipe_is tree unit families is_unit =
    cond-false _ _ _ (le-ltb _ _ is_unit.1)

pub gate_is_node : (tree : FaultTree) (gate : ℕ) → IsGateOf tree gate → IsNodeOf tree gate
gate_is_node tree gate is_gate = (let above = is_gate.0 in omega arith, is_gate.1)

pub unit_is_node : (tree : FaultTree) (unit : ℕ) → IsUnitOf tree unit → IsNodeOf tree unit
unit_is_node tree unit is_unit = (is_unit.0, (let low = is_unit.1 in omega arith))

module _ (tree : FaultTree) (kept : IsTree tree) where
  pub gate-cut_family : (gate : ℕ) → IsGateOf tree gate → (families : List (List (List ℕ))) (made least : List (List ℕ))
      → StandFor (IsCutFamily tree) (inputs_of tree gate) families
      → IsMadeBy (gate_recipe (kind_of tree gate) families) made → IsMinimal made least → IsCutFamily tree gate least
  gate-cut_family gate is_gate families made least stand is minimal =
      recipe-cut_family kept (gate_is_node tree gate is_gate) families
      (subst (λ (q : List ℕ). StandFor (IsCutFamily tree) q families) (sym (gate_below tree gate is_gate)) stand)
      (subst (λ (q : Recipe). IsMadeBy q made) (sym (gate_recipe_is tree gate families is_gate)) is)
      minimal

  pub unit-cut_family : (unit : ℕ) → IsUnitOf tree unit → (families : List (List (List ℕ))) (made least : List (List ℕ))
      → StandFor (IsCutFamily tree) (triggers_of tree unit) families → IsUnionOfAll (alone unit) families made
      → IsMinimal made least → IsCutFamily tree unit least
  unit-cut_family unit is_unit families made least stand is minimal =
      recipe-cut_family kept (unit_is_node tree unit is_unit) families
      (subst (λ (q : List ℕ). StandFor (IsCutFamily tree) q families) (sym (unit_below tree unit is_unit)) stand)
      (subst (λ (q : Recipe). IsMadeBy q made) (sym (unit_recipe_is tree unit families is_unit)) is)
      minimal

-- ---- what is due to a node's recipe is due to the tree

module _ (tree : FaultTree) where
  no_fdep : (gate : ℕ) → is_fdep_kind (kind_of tree gate) ≡ false → is_fdep tree gate ≡ false
  no_fdep gate read = and_right _ _ read

  pub gate-due : (gate : ℕ) → IsGateOf tree gate → is_fdep_kind (kind_of tree gate) ≡ false
      → (families : List (List (List ℕ))) (due : List (List ℕ))
      → StandFor (IsCutFamily tree) (inputs_of tree gate) families
      → IsDueToRecipe (gate_recipe (kind_of tree gate) families) due → IsDueToTree tree due
  gate-due gate is_gate read families due stand is =
      one_node (record {
        is_node = gate_is_node tree gate is_gate;
        has_family = no_fdep gate read;
        families = families;
        cut_families =
            subst (λ (q : List ℕ). StandFor (IsCutFamily tree) q families) (sym (gate_below tree gate is_gate)) stand;
        is = subst (λ (q : Recipe). IsDueToRecipe q due) (sym (gate_recipe_is tree gate families is_gate)) is;
      })

  pub unit-due : (unit : ℕ) → IsUnitOf tree unit → (families : List (List (List ℕ))) (due : List (List ℕ))
      → StandFor (IsCutFamily tree) (triggers_of tree unit) families → IsDueToRecipe (unions (alone unit) families) due
      → IsDueToTree tree due
  unit-due unit is_unit families due stand is =
      one_node (record {
        is_node = unit_is_node tree unit is_unit;
        has_family =
            and_left (is_above_units tree unit) (is_fdep_kind (kind_of tree unit))
            (le-ltb (unit_count tree) unit is_unit.1);
        families = families;
        cut_families =
            subst (λ (q : List ℕ). StandFor (IsCutFamily tree) q families) (sym (unit_below tree unit is_unit)) stand;
        is = subst (λ (q : Recipe). IsDueToRecipe q due) (sym (unit_recipe_is tree unit families is_unit)) is;
      })
