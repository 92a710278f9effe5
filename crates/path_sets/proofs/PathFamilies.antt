-- Path families: the dual recipe of a node gives its path family, each node but an `fdep` has one, and a node stays in
-- service exactly where a set of its path family does.
use Rattle.std.specs.Prelude.{◌≡◌, ℕ, zero, suc, ◌<◌, true, false, List, [], ◌∷◌, All, Contains}
use Rattle.std.proofs.Common.{sym, ◌∙◌, subst, inl, inr, arith}
use Rattle.std.proofs.lemmas.Bool.{cases_Bool, cond-true, cond-false, ltb-false}
use Rattle.std.proofs.lemmas.List.Elements.{All-contains, All-head, All-tail}
use Rattle.unit_sets.proofs.Sorted.{Contains-cons_first, Contains-cons_other}
use Rattle.fault_definitions.specs.{Trigger.below, Trigger.triggers_of, WellFormed.IsTree}
use Rattle.fault_definitions.specs.Tree.{FaultTree, IsNodeOf, IsUnitOf, inputs_of, is_above_units, is_fdep, kind_of}
use Rattle.fault_definitions.specs.Tree.{rank_of, unit_count}
use Rattle.fault_definitions.proofs.RankLaws.{below_are_nodes, below_ranks}
use Rattle.zdd_families.specs.{Minimal.IsMinimal, VotesParts.SpanEach}
use Rattle.zdd_families.proofs.MinimalParts.{HasLeast, minimal-exists}
use Rattle.tree_families.specs.Generation.{IsTrueFor}
use Rattle.tree_families.specs.Recipe.{IsMadeBy, IsProductOfAll, Recipe, StandFor, alone, gate_recipe}
use Rattle.tree_families.proofs.LeastFamilies.{IsTrueWhere-minimal, least_family-minimal, least_family-one}
use Rattle.tree_families.proofs.RecipeParts.{HasMade, given, recipe-makes}
use Rattle.tree_families.proofs.Steps.{gate, of_alone, unit_with_all}
use Rattle.tree_families.proofs.TreeParts.{Spans-of_tree, all_span, gate_span}
use Rattle.path_sets.specs.{Dual.dual_kind, Dual.path_recipe, Paths.IsPathFamily, Paths.serves}
use Rattle.path_sets.proofs.{ReadNodes.below_are_read, Serving.serves_gate, Serving.serves_unit}

-- ---- what the dual recipe makes

module _ (tree : FaultTree) (kept : IsTree tree) (node : ℕ) (is_node : IsNodeOf tree node)
    (families : List (List (List ℕ))) where
  abbrev Serve : List ℕ → Type 0
  Serve nodes = StandFor (IsTrueFor tree (serves tree)) nodes families

  is_unit : is_above_units tree node ≡ false → IsUnitOf tree node
  is_unit low = (is_node.0, ltb-false (unit_count tree) node low)

  gate_serves : {made : List (List ℕ)} → is_above_units tree node ≡ true → is_fdep tree node ≡ false
      → Serve (below tree node) → IsMadeBy (path_recipe tree node families) made
      → IsTrueFor tree (serves tree) node made
  gate_serves {made} above read stand is =
      let stand' : Serve (inputs_of tree node) = subst (λ q. Serve q) (cond-true _ _ _ above) stand in
      let is' : IsMadeBy (gate_recipe (dual_kind (kind_of tree node)) families) made =
      subst (λ (q : Recipe). IsMadeBy q made) (cond-true _ _ _ above) is in
      let here =
      gate tree (serves tree) (dual_kind (kind_of tree node)) (inputs_of tree node) families made stand' is' in
      record {
        of_tree = here.of_tree;
        some_within = λ within. here.some_within within ∙ serves_gate kept within node is_node above read;
      }

  unit_serves : {made : List (List ℕ)} → is_above_units tree node ≡ false
      → Serve (below tree node) → IsMadeBy (path_recipe tree node families) made
      → IsTrueFor tree (serves tree) node made
  unit_serves {made} low stand is =
      let stand' : Serve (triggers_of tree node) = subst (λ q. Serve q) (cond-false _ _ _ low) stand in
      let is' : IsProductOfAll (alone node) families made =
      subst (λ (q : Recipe). IsMadeBy q made) (cond-false _ _ _ low) is in
      let here =
      unit_with_all tree (serves tree) node (triggers_of tree node) families made (is_unit low) stand' is' in
      record {
        of_tree = here.of_tree;
        some_within = λ within. here.some_within within ∙ serves_unit kept within node is_node low;
      }

  -- it is true where the node stays in service, where the families of what it reads are
  made_serves : {made : List (List ℕ)} → is_fdep tree node ≡ false → Serve (below tree node)
      → IsMadeBy (path_recipe tree node families) made → IsTrueFor tree (serves tree) node made
  made_serves read stand is =
      elim (cases_Bool (is_above_units tree node)) [
        | inl above ↦ gate_serves above read stand is
        | inr low ↦ unit_serves low stand is
      ]

  path_span : SpanEach 0 (unit_count tree) families
      → SpanEach 0 (unit_count tree) (given (path_recipe tree node families))
  path_span each =
      elim (cases_Bool (is_above_units tree node)) [
        | inl above ↦
            subst (λ (q : Recipe). SpanEach 0 (unit_count tree) (given q)) (sym (cond-true _ _ _ above))
            (gate_span 0 (unit_count tree) (dual_kind (kind_of tree node)) families each)
        | inr low ↦
            subst (λ (q : Recipe). SpanEach 0 (unit_count tree) (given q)) (sym (cond-false _ _ _ low))
            (Spans-of_tree (of_alone tree node (is_unit low)), each)
      ]

-- ---- rank by rank

-- a family that is true where the node stays in service
record HasServing (tree : FaultTree) (node : ℕ) : Type 0 where
  family : List (List ℕ)
  serves : IsTrueFor tree (serves tree) node family

-- such families of some nodes
record HaveServing (tree : FaultTree) (nodes : List ℕ) : Type 0 where
  families : List (List (List ℕ))
  stand : StandFor (IsTrueFor tree (serves tree)) nodes families

collected : {tree : FaultTree} (nodes : List ℕ) → ((node : ℕ) → Contains nodes node → HasServing tree node)
    → HaveServing tree nodes
collected [] each = record { families = []; stand = tt }
collected {tree} (node ∷ nodes) each =
    let first : HasServing tree node = each node (Contains-cons_first _ _) in
    let others : HaveServing tree nodes = collected nodes (λ n has. each n (Contains-cons_other _ _ _ has)) in
    record { families = first.family ∷ others.families; stand = (first.serves, others.stand) }

-- the path family of a node, which is true where the node stays in service
pub record HasPathFamily (tree : FaultTree) (node : ℕ) : Type 0 where
  pub family : List (List ℕ)
  pub is : IsPathFamily tree node family
  pub serves : IsTrueFor tree (serves tree) node family

module _ (tree : FaultTree) (kept : IsTree tree) where
  built : (node : ℕ) → IsNodeOf tree node → is_fdep tree node ≡ false → HaveServing tree (below tree node)
      → HasServing tree node
  built node is_node read lower =
      let m : HasMade 0 (unit_count tree) (path_recipe tree node lower.families) =
      recipe-makes 0 (unit_count tree) (path_recipe tree node lower.families)
      (path_span tree kept node is_node lower.families
      (all_span tree (serves tree) (below tree node) lower.families lower.stand)) in
      record {
        family = m.made;
        serves = made_serves tree kept node is_node lower.families read lower.stand m.is;
      }

  within_rank : (bound : ℕ) (node : ℕ) → IsNodeOf tree node → is_fdep tree node ≡ false → rank_of tree node < bound
      → HasServing tree node
  within_rank zero node is_node read low = absurd (omega arith)
  within_rank (suc bound) node is_node read low =
      built node is_node read (collected (below tree node) (λ n has.
      within_rank bound n (All-contains (IsNodeOf tree) (below tree node) n (below_are_nodes kept node) has)
      (All-contains (λ q. is_fdep tree q ≡ false) (below tree node) n (below_are_read kept node is_node) has)
      (let lower = All-contains (λ q. rank_of tree q < rank_of tree node) (below tree node) n
      (below_ranks kept node is_node) has in omega arith)))

  -- each node but an `fdep` has a path family
  pub has_path_family : (node : ℕ) → IsNodeOf tree node → is_fdep tree node ≡ false → HasPathFamily tree node
  has_path_family node is_node read =
      let found : HasServing tree node = within_rank (suc (rank_of tree node)) node is_node read (omega arith) in
      let l : HasLeast 0 (unit_count tree) found.family =
      minimal-exists (unit_count tree) (Spans-of_tree {tree = tree} {family = found.family} found.serves.of_tree) in
      record {
        family = l.least;
        is = least_family-minimal tree (λ units. serves tree units node) found.family l.least found.serves l.is;
        serves = IsTrueWhere-minimal tree (λ units. serves tree units node) found.family l.least found.serves l.is;
      }

  -- the node stays in service exactly where a set of its path family does
  pub path_family-serves : (node : ℕ) → IsNodeOf tree node → is_fdep tree node ≡ false → (family : List (List ℕ))
      → IsPathFamily tree node family → IsTrueFor tree (serves tree) node family
  path_family-serves node is_node read family is =
      let found : HasPathFamily tree node = has_path_family node is_node read in
      subst (λ (q : List (List ℕ)). IsTrueFor tree (serves tree) node q)
      (least_family-one tree (λ units. serves tree units node) found.family family found.is is) found.serves

  all_serve : (nodes : List ℕ) (families : List (List (List ℕ))) → All (IsNodeOf tree) nodes
      → All (λ n. is_fdep tree n ≡ false) nodes → StandFor (IsPathFamily tree) nodes families
      → StandFor (IsTrueFor tree (serves tree)) nodes families
  all_serve [] [] are read stand = tt
  all_serve (node ∷ nodes) (family ∷ families) are read stand = (
    path_family-serves node (All-head (IsNodeOf tree) node nodes are)
        (All-head (λ n. is_fdep tree n ≡ false) node nodes read) family stand.0,
    all_serve nodes families (All-tail (IsNodeOf tree) node nodes are)
        (All-tail (λ n. is_fdep tree n ≡ false) node nodes read) stand.1,
  )
  all_serve nodes families are read stand = absurd stand

  -- the dual recipe of a node, followed to its end, gives the node's path family
  pub recipe-path_family : (node : ℕ) → IsNodeOf tree node → is_fdep tree node ≡ false
      → (families : List (List (List ℕ))) (made least : List (List ℕ))
      → StandFor (IsPathFamily tree) (below tree node) families → IsMadeBy (path_recipe tree node families) made
      → IsMinimal made least → IsPathFamily tree node least
  recipe-path_family node is_node read families made least stand is minimal =
      least_family-minimal tree (λ units. serves tree units node) made least
      (made_serves tree kept node is_node families read
      (all_serve (below tree node) families (below_are_nodes kept node) (below_are_read kept node is_node) stand) is)
      minimal
