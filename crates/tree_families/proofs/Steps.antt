-- What a recipe makes of families that are true where what a node reads is, by any reading of the nodes: it is true by
-- the gate's kind. So what the recipe of a node makes from families that generate what the node reads generates it.
use Rattle.std.specs.Prelude.{◌≡◌, ℕ, zero, suc, Bool, true, false, ◌&&◌, ◌||◌, ◌==◌, nat_le, List, [], ◌∷◌, Contains}
use Rattle.std.specs.{List.list_any, List.list_all, List.Sorted.IsStrictlySortedBy}
use Rattle.std.proofs.Common.{refl, sym, ◌∙◌, ap, subst, inl, inr, arith}
use Rattle.std.proofs.lemmas.Bool.{cases_Bool, or_cases, cond-true, cond-false, eqb-true, ltb-false}
use Rattle.unit_sets.specs.UnitList.{among, some_within}
use Rattle.unit_sets.proofs.Sorted.{Contains-nil, Contains-cons_cases}
use Rattle.fault_words.specs.declared.kind.GateKind.{GateKind}
use Rattle.fault_words.specs.declared.kind.GateKind.TheVariants.{Or, Votes, Por, Fdep}
use Rattle.fault_definitions.specs.Reading.{reads, true_count, first_reads, gate_reads}
use Rattle.fault_definitions.proofs.ReadingLaws.{reads-node}
use Rattle.fault_definitions.specs.Tree.{FaultTree, IsNodeOf, IsUnitOf, kind_of, inputs_of, is_above_units, unit_count}
use Rattle.fault_definitions.specs.{Trigger.below, Trigger.triggers_of, WellFormed.IsTree}
use Rattle.zdd_families.specs.{Family.IsFamily, Within.count_within, Minimal.IsMinimal, Product.IsProduct}
use Rattle.zdd_families.specs.{Product.IsJoin, Sets.joined, Union.IsUnion, Votes.IsVotes, Votes.IsChoice}
use Rattle.zdd_families.proofs.{FamilyLemmas.IsFamily-nil, FamilyLemmas.IsFamily-unit, SetsLemmas.among-joined}
use Rattle.zdd_families.proofs.{Parts.empty_unit}
use Rattle.zdd_families.proofs.WithinLemmas.{some_within-union, some_within-product, some_within-minimal}
use Rattle.zdd_families.proofs.WithinLemmas.{some_within-votes}
use Rattle.tree_families.specs.Generation.{IsFamilyOf, AreFamiliesOf, IsFamilyFor, IsTrueFor, IsTrueWhere}
use Rattle.tree_families.specs.Recipe.{Recipe, IsUnionOfAll, IsProductOfAll, IsMadeBy, all_united}
use Rattle.tree_families.specs.Recipe.{all_multiplied, first_alone, gate_recipe, alone, node_recipe, StandFor}

-- ---- what results are true by

-- whether all units of some set of the family pass a test
abbrev hit_by : (ℕ → Bool) → List (List ℕ) → Bool
hit_by within family = some_within family within

some_within-unions : (within : ℕ → Bool) (first : List (List ℕ)) (others : List (List (List ℕ))) (made : List (List ℕ))
    → IsUnionOfAll first others made → some_within made within
    ≡ (some_within first within || list_any (hit_by within) others)
some_within-unions within first [] made same = let e = ap (hit_by within) same in grind (arith, e)
some_within-unions within first (family ∷ others) made (union, is, rest) =
    let e = some_within-unions within union others made rest in
    let e' = some_within-union first family union within is in grind (arith, e, e')

some_within-products : (within : ℕ → Bool) (first : List (List ℕ)) (others : List (List (List ℕ)))
    (made : List (List ℕ))
    → IsProductOfAll first others made → some_within made within
    ≡ (some_within first within && list_all (hit_by within) others)
some_within-products within first [] made same = let e = ap (hit_by within) same in grind (arith, e)
some_within-products within first (family ∷ others) made (product, least, is, minimal, rest) =
    let e = some_within-products within least others made rest in
    let e' = some_within-minimal product least within is.is_family minimal in
    let k = some_within-product first family product within is in grind (arith, e, e', k)

-- ---- families of units of the tree

module _ (tree : FaultTree) where
  of_none : IsFamilyOf tree []
  of_none = record { is_family = IsFamily-nil; units = λ set has. Contains-nil set has }

  no_unit : {G : Type 0} {set : List ℕ} (unit : ℕ) → set ≡ [] → among set unit ≡ true → G
  no_unit unit same has =
      let clash : among [] unit ≡ true = subst (λ q. among q unit ≡ true) same has in absurd cc

  of_empty_set : IsFamilyOf tree ([] ∷ [])
  of_empty_set = record { is_family = IsFamily-unit; units = λ set has unit member. empty_unit set unit has member }

  of_union : {f g h : List (List ℕ)} → IsFamilyOf tree f → IsFamilyOf tree g → IsUnion f g h → IsFamilyOf tree h
  of_union of of' is = record {
    is_family = is.is_family;
    units = λ set has. elim ((is.sets set).0 has) [
      | inl of_f ↦ of.units set of_f
      | inr of_g ↦ of'.units set of_g
    ];
  }

  joined_units : (a b : List ℕ) {set : List ℕ} → set ≡ joined a b
      → ((unit : ℕ) → among a unit ≡ true → IsUnitOf tree unit)
      → ((unit : ℕ) → among b unit ≡ true → IsUnitOf tree unit) → (unit : ℕ) → among set unit ≡ true
      → IsUnitOf tree unit
  joined_units a b same of_a of_b unit has =
      elim (or_cases (among a unit) (among b unit) (sym (among-joined a b unit)
      ∙ subst (λ (q : List ℕ). among q unit ≡ true) same has)) [
        | inl here ↦ of_a unit here
        | inr there ↦ of_b unit there
      ]

  of_product : {f g h : List (List ℕ)} → IsFamilyOf tree f → IsFamilyOf tree g → IsProduct f g h → IsFamilyOf tree h
  of_product {f} {g} of of' is = record {
    is_family = is.is_family;
    units = λ set has.
        let join : IsJoin f g set = (is.sets set).0 has in
        joined_units _ _ join.is (of.units join.first join.of_f) (of'.units join.second join.of_g);
  }

  of_minimal : {f least : List (List ℕ)} → IsFamilyOf tree f → IsMinimal f least → IsFamilyOf tree least
  of_minimal of is =
      record { is_family = is.is_family; units = λ set has. of.units set ((is.sets set).0 has).0 }

  choice_units : (families : List (List (List ℕ))) → AreFamiliesOf tree families → (count : ℕ) (set : List ℕ)
      → IsChoice families count set → (unit : ℕ) → among set unit ≡ true → IsUnitOf tree unit
  choice_units [] of zero set same unit has = no_unit unit same has
  choice_units [] of (suc count) set chosen unit has = absurd chosen
  choice_units (family ∷ families) of zero set chosen unit has = choice_units families of.1 zero set chosen unit has
  choice_units (family ∷ families) of (suc count) set (inl skipped) unit has =
      choice_units families of.1 (suc count) set skipped unit has
  choice_units (family ∷ families) of (suc count) set (inr (first, rest, of_first, chosen, same)) unit has =
      joined_units _ _ same (of.0.units first of_first) (choice_units families of.1 count rest chosen) unit has

  of_votes : {count : ℕ} {families : List (List (List ℕ))} {made : List (List ℕ)} → AreFamiliesOf tree families
      → IsVotes count families made → IsFamilyOf tree made
  of_votes {count} {families} of is =
      record { is_family = is.is_family; units = λ set has. choice_units families of count set ((is.sets set).0 has) }

  of_unions : {first : List (List ℕ)} (others : List (List (List ℕ))) {made : List (List ℕ)} → IsFamilyOf tree first
      → AreFamiliesOf tree others → IsUnionOfAll first others made → IsFamilyOf tree made
  of_unions [] of all same = subst (IsFamilyOf tree) (sym same) of
  of_unions (family ∷ others) of all (union, is, rest) = of_unions others (of_union of all.0 is) all.1 rest

  of_products : {first : List (List ℕ)} (others : List (List (List ℕ))) {made : List (List ℕ)} → IsFamilyOf tree first
      → AreFamiliesOf tree others → IsProductOfAll first others made → IsFamilyOf tree made
  of_products [] of all same = subst (IsFamilyOf tree) (sym same) of
  of_products (family ∷ others) of all (product, least, is, minimal, rest) =
      of_products others (of_minimal (of_product of all.0 is) minimal) all.1 rest

-- ---- families that are true where the nodes that are read are, by any reading

module _ (tree : FaultTree) (reading : (ℕ → Bool) → ℕ → Bool) where
  all_of_tree : (nodes : List ℕ) (families : List (List (List ℕ))) → StandFor (IsTrueFor tree reading) nodes families
      → AreFamiliesOf tree families
  all_of_tree [] [] stand = tt
  all_of_tree (node ∷ nodes) (family ∷ families) stand = (stand.0.of_tree, all_of_tree nodes families stand.1)
  all_of_tree nodes families stand = absurd stand

  module _ (within : ℕ → Bool) where
    some_hit : (nodes : List ℕ) (families : List (List (List ℕ))) → StandFor (IsTrueFor tree reading) nodes families
        → list_any (hit_by within) families ≡ list_any (reading within) nodes
    some_hit [] [] stand = refl
    some_hit (node ∷ nodes) (family ∷ families) stand =
        let e : some_within family within ≡ reading within node = stand.0.some_within within in
        let rest = some_hit nodes families stand.1 in cc
    some_hit nodes families stand = absurd stand

    all_hit : (nodes : List ℕ) (families : List (List (List ℕ))) → StandFor (IsTrueFor tree reading) nodes families
        → list_all (hit_by within) families ≡ list_all (reading within) nodes
    all_hit [] [] stand = refl
    all_hit (node ∷ nodes) (family ∷ families) stand =
        let e : some_within family within ≡ reading within node = stand.0.some_within within in
        let rest = all_hit nodes families stand.1 in cc
    all_hit nodes families stand = absurd stand

    count_hit : (nodes : List ℕ) (families : List (List (List ℕ))) → StandFor (IsTrueFor tree reading) nodes families
        → count_within families within ≡ true_count (reading within) nodes
    count_hit [] [] stand = refl
    count_hit (node ∷ nodes) (family ∷ families) stand =
        let e : some_within family within ≡ reading within node = stand.0.some_within within in
        let rest = count_hit nodes families stand.1 in cc
    count_hit nodes families stand = absurd stand

-- ---- gates

module _ (tree : FaultTree) (reading : (ℕ → Bool) → ℕ → Bool) where
  -- a family without sets is never true
  never : {made : List (List ℕ)} → made ≡ [] → IsTrueWhere tree (λ within. false) made
  never same =
      record {
        of_tree = subst (IsFamilyOf tree) (sym same) (of_none tree);
        some_within = λ within. ap (hit_by within) same;
      }

  united : (nodes : List ℕ) (families : List (List (List ℕ))) {made : List (List ℕ)}
      → StandFor (IsTrueFor tree reading) nodes families → IsMadeBy (all_united families) made
      → IsTrueWhere tree (λ within. list_any (reading within) nodes) made
  united [] [] stand same = never same
  united (node ∷ nodes) (family ∷ families) {made} stand is = record {
    of_tree = of_unions tree families stand.0.of_tree (all_of_tree tree reading nodes families stand.1) is;
    some_within =
        λ within. some_within-unions within family families made is
        ∙ some_hit tree reading within (node ∷ nodes) (family ∷ families) stand;
  }
  united nodes families stand is = absurd stand

  multiplied : (nodes : List ℕ) (families : List (List (List ℕ))) {made : List (List ℕ)}
      → StandFor (IsTrueFor tree reading) nodes families → IsMadeBy (all_multiplied families) made
      → IsTrueWhere tree (λ within. list_all (reading within) nodes) made
  multiplied [] [] stand same =
      record {
        of_tree = subst (IsFamilyOf tree) (sym same) (of_empty_set tree);
        some_within =
            λ within. ap (hit_by within) same;
      }
  multiplied (node ∷ nodes) (family ∷ families) {made} stand is = record {
    of_tree = of_products tree families stand.0.of_tree (all_of_tree tree reading nodes families stand.1) is;
    some_within =
        λ within. some_within-products within family families made is
        ∙ all_hit tree reading within (node ∷ nodes) (family ∷ families) stand;
  }
  multiplied nodes families stand is = absurd stand

  voted : {least : ℕ} (nodes : List ℕ) {families : List (List (List ℕ))} {made : List (List ℕ)}
      → StandFor (IsTrueFor tree reading) nodes families → IsVotes least families made
      → IsTrueWhere tree (λ within. nat_le least (true_count (reading within) nodes)) made
  voted {least} nodes {families} {made} stand is = record {
    of_tree = of_votes tree (all_of_tree tree reading nodes families stand) is;
    some_within =
        λ within. some_within-votes least families made within is
        ∙ ap (nat_le least) (count_hit tree reading within nodes families stand);
  }

  first : (nodes : List ℕ) (families : List (List (List ℕ))) {made : List (List ℕ)}
      → StandFor (IsTrueFor tree reading) nodes families → IsMadeBy (first_alone families) made
      → IsTrueWhere tree (λ within. first_reads (reading within) nodes) made
  first [] [] stand same = never same
  first (node ∷ nodes) (family ∷ families) stand same = record {
    of_tree = subst (IsFamilyOf tree) (sym same) stand.0.of_tree;
    some_within = λ within. ap (hit_by within) same ∙ stand.0.some_within within;
  }
  first nodes families stand is = absurd stand

  pub gate : (kind : GateKind) (nodes : List ℕ) (families : List (List (List ℕ))) (made : List (List ℕ))
      → StandFor (IsTrueFor tree reading) nodes families → IsMadeBy (gate_recipe kind families) made
      → IsTrueWhere tree (λ within. gate_reads kind (reading within) nodes) made
  gate Or nodes families made stand is = united nodes families stand is
  gate (Votes least of) nodes families made stand is = voted nodes stand is
  gate Por nodes families made stand is = first nodes families stand is
  gate Fdep nodes families made stand is = never is
  gate _ nodes families made stand is = multiplied nodes families stand is

-- ---- units

module _ (tree : FaultTree) where
  pub alone_rises : (unit : ℕ) → IsFamily (alone unit)
  unfolding IsStrictlySortedBy
  alone_rises unit = record { ordered = (tt, tt); rising = ((tt, tt), tt) }

  pub alone_set : (unit : ℕ) (set : List ℕ) → Contains (alone unit) set → set ≡ unit ∷ []
  alone_set unit set has =
      elim (Contains-cons_cases (unit ∷ []) set [] has) [
        | inl same ↦ sym same
        | inr later ↦ Contains-nil _ later
      ]

  pub alone_member : (unit other : ℕ) → among (unit ∷ []) other ≡ true → unit ≡ other
  alone_member unit other has = eqb-true unit other (let e : (unit == other) ≡ true = grind (arith, has) in e)

  pub of_alone : (unit : ℕ) → IsUnitOf tree unit → IsFamilyOf tree (alone unit)
  of_alone unit is_unit = record {
    is_family = alone_rises unit;
    units =
        λ set has other member. subst (IsUnitOf tree)
        (alone_member unit other (subst (λ q. among q other ≡ true) (alone_set unit set has) member))
        is_unit;
  }

module _ (tree : FaultTree) (reading : (ℕ → Bool) → ℕ → Bool) (node : ℕ) (nodes : List ℕ)
    (families : List (List (List ℕ))) (made : List (List ℕ)) (is_unit : IsUnitOf tree node)
    (stand : StandFor (IsTrueFor tree reading) nodes families) where
  unit : IsUnionOfAll (alone node) families made
      → IsTrueWhere tree (λ within. within node || list_any (reading within) nodes) made
  unit is = record {
    of_tree = of_unions tree families (of_alone tree node is_unit) (all_of_tree tree reading nodes families stand) is;
    some_within = λ within.
        let e = some_within-unions within (alone node) families made is in
        let e' = some_hit tree reading within nodes families stand in grind (arith, e, e');
  }

  -- a unit that needs all of the nodes
  pub unit_with_all : IsProductOfAll (alone node) families made
      → IsTrueWhere tree (λ within. within node && list_all (reading within) nodes) made
  unit_with_all is = record {
    of_tree =
        of_products tree families (of_alone tree node is_unit) (all_of_tree tree reading nodes families stand) is;
    some_within = λ within.
        let e = some_within-products within (alone node) families made is in
        let e' = all_hit tree reading within nodes families stand in grind (arith, e, e');
  }

-- ---- nodes

module _ (tree : FaultTree) (kept : IsTree tree) (node : ℕ) (is_node : IsNodeOf tree node)
    (families : List (List (List ℕ))) (made : List (List ℕ))
    (stand : StandFor (IsFamilyFor tree) (below tree node) families)
    (is : IsMadeBy (node_recipe tree node families) made) where
  gate_made : is_above_units tree node ≡ true → IsFamilyFor tree node made
  gate_made above =
      let stand' : StandFor (IsFamilyFor tree) (inputs_of tree node) families =
      subst (λ q. StandFor (IsFamilyFor tree) q families)
      (cond-true _ _ _ above) stand in
      let is' : IsMadeBy (gate_recipe (kind_of tree node) families) made =
      subst (λ (q : Recipe). IsMadeBy q made) (cond-true _ _ _ above) is in
      let here = gate tree (reads tree) (kind_of tree node) (inputs_of tree node) families made stand' is' in
      record {
        of_tree = here.of_tree;
        some_within =
            λ within. here.some_within within ∙ sym (reads-node tree kept within node is_node
            ∙ cond-true _ _ _ above);
      }

  unit_made : is_above_units tree node ≡ false → IsFamilyFor tree node made
  unit_made low =
      let stand' : StandFor (IsFamilyFor tree) (triggers_of tree node) families =
      subst (λ q. StandFor (IsFamilyFor tree) q families)
      (cond-false _ _ _ low) stand in
      let is' : IsUnionOfAll (alone node) families made =
      subst (λ (q : Recipe). IsMadeBy q made) (cond-false _ _ _ low) is in
      let here =
      unit tree (reads tree) node (triggers_of tree node) families made
      (is_node.0, ltb-false (unit_count tree) node low) stand' is' in
      record {
        of_tree = here.of_tree;
        some_within =
            λ within. here.some_within within ∙ sym (reads-node tree kept within node is_node
            ∙ cond-false _ _ _ low);
      }

  -- what a node's recipe makes generates the node, where the families of what it reads do
  pub IsFamilyFor-made : IsFamilyFor tree node made
  IsFamilyFor-made =
      elim (cases_Bool (is_above_units tree node)) [
        | inl above ↦ gate_made above
        | inr low ↦ unit_made low
      ]
