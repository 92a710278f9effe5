-- Each node of a tree has a cut family, and each part of it is due to the tree.
use Rattle.std.specs.Prelude.{◌≡◌, ◌⊎◌, ℕ, zero, suc, ◌<◌, Bool, true, false, List, [], ◌∷◌, All, Contains}
use Rattle.std.proofs.Common.{refl, sym, subst, inl, inr, arith}
use Rattle.std.proofs.lemmas.Bool.{cases_Bool, and_parts, cond-true, cond-false, ltb-false}
use Rattle.std.proofs.lemmas.List.Elements.{All-contains}
use Rattle.unit_sets.proofs.Sorted.{Contains-nil, Contains-cons_first, Contains-cons_other, Contains-cons_cases}
use Rattle.fault_words.specs.declared.kind.GateKind.{GateKind}
use Rattle.fault_words.specs.declared.kind.GateKind.TheVariants.{Or, Votes, Por, Fdep}
use Rattle.fault_definitions.specs.{CutFamily.IsCutFamily, Reading.reads, Trigger.below, WellFormed.IsTree}
use Rattle.fault_definitions.proofs.RankLaws.{below_are_nodes, below_ranks}
use Rattle.fault_definitions.specs.Tree.{FaultTree, IsNodeOf, is_above_units, is_fdep, is_fdep_kind, kind_of, rank_of}
use Rattle.fault_definitions.specs.Tree.{unit_count}
use Rattle.zdd_families.specs.{Cuts.Cuts, Minimal.IsMinimal, Nodes.IsReached, Spans.Spans}
use Rattle.zdd_families.specs.{VotesParts.SpanEach, VotesParts.PartOfOne}
use Rattle.zdd_families.proofs.{CutsLemmas.each-from_contains, SetsLemmas.above_from_among, MinimalParts.HasLeast}
use Rattle.zdd_families.proofs.{MinimalParts.minimal-exists, VotesPartsLemmas.Spans-none, VotesPartsLemmas.Spans-unit}
use Rattle.tree_families.specs.Recipe.{Recipe, unions, votes, IsMadeBy, all_united, all_multiplied, first_alone}
use Rattle.tree_families.specs.Recipe.{gate_recipe, alone, node_recipe, StandFor}
use Rattle.tree_families.specs.Due.{IsDueToTree, IsDueToRecipe, one_unit, one_node}
use Rattle.tree_families.specs.Generation.{IsFamilyOf, IsTrueFor}
use Rattle.tree_families.proofs.{Building.all_generate, Building.recipe-cut_family, CutFamilies.cut_family-one}
use Rattle.tree_families.proofs.{Steps.of_alone}
use Rattle.zdd_families.proofs.Parts.{reached-none, reached-unit, PartAt, itself, of_lo, of_hi, part_at}
use Rattle.tree_families.proofs.RecipeParts.{given, HasMade, recipe-makes, recipe-parts, made_parts}

-- ---- the families of a tree span its units

pub Spans-of_tree : {tree : FaultTree} {family : List (List ℕ)} → IsFamilyOf tree family
    → Spans 0 (unit_count tree) family
Spans-of_tree {family} of = record {
  is_family = of.is_family;
  above =
      each-from_contains _ _ (λ set has.
      above_from_among 0 set (λ unit member. let low = (of.units set has unit member).0 in omega arith));
  below = λ set has unit member. let high = (of.units set has unit member).1 in omega arith;
}

pub all_span : (tree : FaultTree) (reading : (ℕ → Bool) → ℕ → Bool) (nodes : List ℕ) (families : List (List (List ℕ)))
    → StandFor (IsTrueFor tree reading) nodes families → SpanEach 0 (unit_count tree) families
all_span tree reading [] [] stand = tt
all_span tree reading (node ∷ nodes) (family ∷ families) stand =
    (Spans-of_tree {tree = tree} {family = family} stand.0.of_tree, all_span tree reading nodes families stand.1)
all_span tree reading nodes families stand = absurd stand

-- ---- what the recipe of a node is given: the families of what it reads, and a unit's own

-- what holds of the recipes of all kinds of gates
gate_cases : (P : Recipe → Type 0) (families : List (List (List ℕ))) → P (all_multiplied families)
    → P (all_united families) → ((least : ℕ) → P (votes least families)) → P (first_alone families) → P (unions [] [])
    → (kind : GateKind) → P (gate_recipe kind families)
gate_cases P families all some voted one none Or = some
gate_cases P families all some voted one none (Votes least of) = voted least
gate_cases P families all some voted one none Por = one
gate_cases P families all some voted one none Fdep = none
gate_cases P families all some voted one none _ = all

pub gate_span : (low size : ℕ) (kind : GateKind) (families : List (List (List ℕ))) → SpanEach low size families
    → SpanEach low size (given (gate_recipe kind families))
gate_span low size kind [] each =
    let none : SpanEach low size ([] ∷ []) = (Spans-none low size, tt) in
    gate_cases (λ r. SpanEach low size (given r)) [] (Spans-unit low size, tt) none (λ least. tt) none none kind
gate_span low size kind (first ∷ others) each =
    gate_cases (λ r. SpanEach low size (given r)) (first ∷ others) each each (λ least. each) (each.0, tt)
    (Spans-none low size, tt) kind

-- a part of the first family or of another
part_cases : {first : List (List ℕ)} {others : List (List (List ℕ))} {part : List (List ℕ)}
    → PartOfOne (first ∷ others) part → IsReached first part ⊎ PartOfOne others part
part_cases {first} {others} {part} found =
    elim (Contains-cons_cases first found.family others found.has) [
      | inl same ↦ inl (subst (λ q. IsReached q part) (sym same) found.reached)
      | inr later ↦ inr (record { family = found.family; has = later; reached = found.reached })
    ]

no_part : {G : Type 0} {part : List (List ℕ)} → PartOfOne [] part → G
no_part found = Contains-nil found.family found.has

module _ (part : List (List ℕ)) where
  none_of : {G : Type 0} → PartOfOne ([] ∷ []) part → G
  none_of found = elim (part_cases found) [ inl reached ↦ reached-none reached | inr later ↦ no_part later ]

  none_of_unit : {G : Type 0} → PartOfOne (([] ∷ []) ∷ []) part → G
  none_of_unit found =
      elim (part_cases found) [ inl reached ↦ reached-unit (λ set has. has) reached | inr later ↦ no_part later ]

  of_gate : (kind : GateKind) (families : List (List (List ℕ))) → PartOfOne (given (gate_recipe kind families)) part
      → PartOfOne families part
  of_gate kind [] =
      gate_cases (λ r. PartOfOne (given r) part → PartOfOne [] part) [] (λ found. none_of_unit found)
      (λ found. none_of found) (λ least found. found) (λ found. none_of found) (λ found. none_of found) kind
  of_gate kind (first ∷ others) =
      gate_cases (λ r. PartOfOne (given r) part → PartOfOne (first ∷ others) part) (first ∷ others) (λ found. found)
      (λ found. found) (λ least found. found)
      (λ found. elim (part_cases found) [
        | inl reached ↦ record { family = first; has = Contains-cons_first first others; reached = reached }
        | inr later ↦ no_part later
      ])
      (λ found. none_of found) kind

  -- the family of a unit alone has itself as its one part
  alone_cut : {unit : ℕ} → Cuts unit (alone unit) [] ([] ∷ [])
  alone_cut = record { is = refl; lo_above = tt; hi_above = (tt, tt) }

  alone_at : (unit : ℕ) → PartAt (alone unit) [] ([] ∷ []) part → part ≡ alone unit
  alone_at unit (itself same) = same
  alone_at unit (of_lo reached) = reached-none reached
  alone_at unit (of_hi reached) = reached-unit (λ set has. has) reached

  alone_part : (unit : ℕ) → IsReached (alone unit) part → part ≡ alone unit
  alone_part unit reached = alone_at unit (part_at ([] ∷ []) (alone_cut) reached)

  of_unit : (unit : ℕ) {families : List (List (List ℕ))} → PartOfOne (alone unit ∷ families) part
      → (part ≡ alone unit) ⊎ PartOfOne families part
  of_unit unit found =
      elim (part_cases found) [ inl reached ↦ inl (alone_part unit reached) | inr later ↦ inr later ]

module _ (tree : FaultTree) (node : ℕ) (is_node : IsNodeOf tree node) (families : List (List (List ℕ))) where
  node_span : SpanEach 0 (unit_count tree) families
      → SpanEach 0 (unit_count tree) (given (node_recipe tree node families))
  node_span each =
      elim (cases_Bool (is_above_units tree node)) [
        | inl above ↦
            subst (λ (q : Recipe). SpanEach 0 (unit_count tree) (given q))
            (sym (cond-true _ _ _ above))
            (gate_span 0 (unit_count tree) (kind_of tree node) families each)
        | inr low ↦
            subst (λ (q : Recipe). SpanEach 0 (unit_count tree) (given q))
            (sym (cond-false _ _ _ low)) (
              Spans-of_tree (of_alone tree node (is_node.0, ltb-false (unit_count tree) node low)),
              each,
            )
      ]

  node_given : {part : List (List ℕ)} → PartOfOne (given (node_recipe tree node families)) part
      → IsDueToTree tree part ⊎ PartOfOne families part
  node_given {part} found =
      elim (cases_Bool (is_above_units tree node)) [
        | inl above ↦
            inr (of_gate part (kind_of tree node) families
            (subst (λ (q : Recipe). PartOfOne (given q) part)
            (cond-true _ _ _ above) found))
        | inr low ↦
            elim (of_unit part node (subst (λ (q : Recipe). PartOfOne (given q) part)
            (cond-false _ _ _ low) found)) [
              | inl same ↦ inl (subst (IsDueToTree tree) (sym same)
                  (one_unit (is_node.0, ltb-false (unit_count tree) node low)))
              | inr of_one ↦ inr of_one
            ]
      ]

  -- what is made for an `fdep` has no sets
  fdep_makes : (kind : GateKind) {made : List (List ℕ)} → is_fdep_kind kind ≡ true
      → IsMadeBy (gate_recipe kind families) made → made ≡ []
  fdep_makes Fdep fdep is = is
  fdep_makes _ fdep is = absurd cc

  fdep_none : (made : List (List ℕ)) → is_fdep tree node ≡ true → IsMadeBy (node_recipe tree node families) made
      → made ≡ []
  fdep_none made fdep is =
      let both = and_parts _ _ fdep in
      fdep_makes (kind_of tree node) both.1
      (subst (λ (q : Recipe). IsMadeBy q made) (cond-true _ _ _ both.0) is)

-- ---- rank by rank

pub record HasCutFamily (tree : FaultTree) (node : ℕ) : Type 0 where
  pub family : List (List ℕ)
  pub is : IsCutFamily tree node family
  pub due : (part : List (List ℕ)) → IsReached family part → IsDueToTree tree part

-- the cut families of some nodes
record HaveCutFamilies (tree : FaultTree) (nodes : List ℕ) : Type 0 where
  families : List (List (List ℕ))
  stand : StandFor (IsCutFamily tree) nodes families
  due : (part : List (List ℕ)) → PartOfOne families part → IsDueToTree tree part

due_one : {tree : FaultTree} {family : List (List ℕ)} {families : List (List (List ℕ))} {part : List (List ℕ)}
    → (IsReached family part → IsDueToTree tree part) → (PartOfOne families part → IsDueToTree tree part)
    → PartOfOne (family ∷ families) part → IsDueToTree tree part
due_one first others found =
    elim (part_cases found) [ inl reached ↦ first reached | inr later ↦ others later ]

collected : {tree : FaultTree} (nodes : List ℕ) → ((node : ℕ) → Contains nodes node → HasCutFamily tree node)
    → HaveCutFamilies tree nodes
collected [] each = record { families = []; stand = tt; due = λ part found. Contains-nil found.family found.has }
collected {tree} (node ∷ nodes) each =
    let first : HasCutFamily tree node = each node (Contains-cons_first _ _) in
    let others : HaveCutFamilies tree nodes = collected nodes (λ n has. each n (Contains-cons_other _ _ _ has)) in
    record {
      families = first.family ∷ others.families;
      stand = (first.is, others.stand);
      due = λ part found. due_one (first.due part) (others.due part) found;
    }

module _ (tree : FaultTree) (kept : IsTree tree) where
  node_at : (nodes : List ℕ) → All (IsNodeOf tree) nodes → (node : ℕ) → Contains nodes node → IsNodeOf tree node
  node_at nodes are node has = All-contains (IsNodeOf tree) nodes node are has

  pub read_spans : (node : ℕ) → IsNodeOf tree node → (families : List (List (List ℕ)))
      → StandFor (IsCutFamily tree) (below tree node) families
      → SpanEach 0 (unit_count tree) (given (node_recipe tree node families))
  read_spans node is_node families stand =
      node_span tree node is_node families (all_span tree (reads tree) (below tree node) families
      (all_generate kept (below tree node) families (below_are_nodes kept node) stand))

  -- what is due to a node's recipe or a part of what that is given is due to the tree
  due_at : (node : ℕ) → IsNodeOf tree node → (families : List (List (List ℕ))) {part : List (List ℕ)}
      → StandFor (IsCutFamily tree) (below tree node) families → is_fdep tree node ≡ false
      → (PartOfOne families part → IsDueToTree tree part)
      → IsDueToRecipe (node_recipe tree node families) part ⊎ PartOfOne (given (node_recipe tree node families)) part
      → IsDueToTree tree part
  due_at node is_node families stand read lower (inl due) =
      one_node (record {
        is_node = is_node;
        has_family = read;
        families = families;
        cut_families = stand;
        is = due;
      })
  due_at node is_node families stand read lower (inr found) =
      elim (node_given tree node is_node families found) [ inl due ↦ due | inr of_one ↦ lower of_one ]

  module _ (node : ℕ) (is_node : IsNodeOf tree node) (lower : HaveCutFamilies tree (below tree node)) where
    each_spans : SpanEach 0 (unit_count tree) (given (node_recipe tree node lower.families))
    each_spans = read_spans node is_node lower.families lower.stand

    part_due : {made least part : List (List ℕ)} → Spans 0 (unit_count tree) made
        → IsMadeBy (node_recipe tree node lower.families) made → IsMinimal made least → is_fdep tree node ≡ false
        → IsReached least part → IsDueToTree tree part
    part_due {part} s is minimal read reached =
        due_at node is_node lower.families lower.stand read (λ found. lower.due part found)
        (recipe-parts 0 (unit_count tree) part (node_recipe tree node lower.families) each_spans s is minimal reached)

    fdep_part : {G : Type 0} {made least part : List (List ℕ)} → IsMadeBy (node_recipe tree node lower.families) made
        → IsMinimal made least → is_fdep tree node ≡ true → IsReached least part → G
    fdep_part {made} is minimal fdep reached =
        reached-unit (λ set has.
        Contains-nil _ (subst (λ q. Contains q set)
        (fdep_none tree node is_node lower.families made fdep is) ((minimal.sets set).0 has).0)) reached

    built : HasCutFamily tree node
    built =
        let m : HasMade 0 (unit_count tree) (node_recipe tree node lower.families) =
        recipe-makes 0 (unit_count tree) (node_recipe tree node lower.families) each_spans in
        let l : HasLeast 0 (unit_count tree) m.made = minimal-exists (unit_count tree) m.spans in
        record {
          family = l.least;
          is = recipe-cut_family kept is_node lower.families lower.stand m.is l.is;
          due = λ part reached. elim (cases_Bool (is_fdep tree node)) [
            | inl fdep ↦ fdep_part m.is l.is fdep reached
            | inr read ↦ part_due m.spans m.is l.is read reached
          ];
        }

  within_rank : (bound : ℕ) {node : ℕ} → IsNodeOf tree node → rank_of tree node < bound → HasCutFamily tree node
  within_rank zero is_node low = absurd (omega arith)
  within_rank (suc bound) {node} is_node low =
      built node is_node (collected (below tree node) (λ n has.
      within_rank bound (node_at (below tree node) (below_are_nodes kept node) n has)
      (let lower = All-contains (λ q. rank_of tree q < rank_of tree node) (below tree node) n
      (below_ranks kept node is_node) has in omega arith)))

  pub has_cut_family : (node : ℕ) → IsNodeOf tree node → HasCutFamily tree node
  has_cut_family node is_node = within_rank (suc (rank_of tree node)) is_node (omega arith)

  -- whatever way a node's cut family was got, all its parts are due to the tree
  pub cut_family-parts : (node : ℕ) → IsNodeOf tree node → (family part : List (List ℕ)) → IsCutFamily tree node family
      → IsReached family part → IsDueToTree tree part
  cut_family-parts node is_node family part is reached =
      let found : HasCutFamily tree node = has_cut_family node is_node in
      found.due part (subst (λ q. IsReached q part)
      (cut_family-one _ _ _ _ is found.is) reached)

  -- ---- so are all parts of what a node's recipe makes

  part_of_one : (nodes : List ℕ) (families : List (List (List ℕ))) {part : List (List ℕ)}
      → ((node : ℕ) → Contains nodes node → IsNodeOf tree node) → StandFor (IsCutFamily tree) nodes families
      → PartOfOne families part → IsDueToTree tree part
  part_of_one [] [] are stand found = Contains-nil _ found.has
  part_of_one (node ∷ nodes) (family ∷ families) {part} are stand found =
      due_one (λ reached. cut_family-parts node (are node (Contains-cons_first _ _)) family part stand.0 reached)
      (λ later. part_of_one nodes families (λ n has. are n (Contains-cons_other _ _ _ has)) stand.1 later) found
  part_of_one nodes families are stand found = absurd stand

  pub recipe-made_parts : (node : ℕ) → IsNodeOf tree node → is_fdep tree node ≡ false
      → (families : List (List (List ℕ))) (made part : List (List ℕ))
      → StandFor (IsCutFamily tree) (below tree node) families → IsMadeBy (node_recipe tree node families) made
      → IsReached made part → IsDueToTree tree part
  recipe-made_parts node is_node read families made part stand is reached =
      due_at node is_node families stand read
      (λ found. part_of_one (below tree node) families (node_at (below tree node) (below_are_nodes kept node)) stand
      found)
      (made_parts 0 (unit_count tree) part (node_recipe tree node families) (read_spans node is_node families stand) is
      reached)
