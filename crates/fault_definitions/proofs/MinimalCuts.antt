-- Each set of units that fails a node includes a minimal one; and a tree has a cut list.
use Rattle.std.specs.Prelude.{◌≡◌, ℕ, zero, suc, ◌<◌, ◌≤◌, Bool, true, false, not, ◌||◌, ◌==◌, List, [], ◌∷◌, length}
use Rattle.std.specs.Prelude.{filter, All, Contains, get_or, if◌then◌else◌}
use Rattle.std.specs.{List.list_any, List.Sorted.IsStrictlySortedBy}
use Rattle.std.proofs.Common.{refl, sym, ◌∙◌, ap, subst, inl, inr, arith, eq-eqb}
use Rattle.std.proofs.lemmas.Bool.{cases_Bool, cases_eq, or_cases, or_left, or_right, or_parts, and_parts, cond_both}
use Rattle.std.proofs.lemmas.Bool.{cond-true, cond-false, eqb-true, ltb-false, false≢true, not_from_true}
use Rattle.std.proofs.lemmas.List.Elements.{All-weaker, All-contains_itself}
use Rattle.unit_sets.proofs.Sorted.{Contains-nil, Contains-cons_cases}
use Rattle.unit_sets.specs.UnitList.{among, with_unit, without_unit, is_within, IsRising}
use Rattle.unit_sets.proofs.UnitListLemmas.{among-with_unit}
use Rattle.unit_sets.proofs.UnitListLemmas.{among-without_unit, IsRising-with_unit, IsRising-without_unit}
use Rattle.unit_sets.proofs.UnitListLemmas.{among-from_Contains}
use Rattle.unit_sets.proofs.UnitListLemmas.{is_within-from_among}
use Rattle.fault_definitions.specs.Cut.{IsMinimalFor, IsMinimalCut, is_cut}
use Rattle.fault_definitions.proofs.RankLaws.{below_are_nodes, below_ranks}
use Rattle.fault_definitions.specs.Reading.{node_reads, reads}
use Rattle.fault_definitions.proofs.ReadingLaws.{node_reads-agree, reads-node}
use Rattle.fault_definitions.specs.Reading.{Within}
use Rattle.fault_definitions.specs.Tree.{FaultTree, IsNodeOf, IsUnitOf, is_above_units, rank_of, unit_count}
use Rattle.fault_definitions.specs.{Trigger.below, Trigger.triggers_of, WellFormed.IsTree}

-- ---- a reading asks for units of the tree alone

module _ {tree : FaultTree} (kept : IsTree tree) (a b : ℕ → Bool)
    (same : (unit : ℕ) → IsUnitOf tree unit → a unit ≡ b unit) where
  by_units : (reading : ℕ → Bool) (node : ℕ) → IsNodeOf tree node
      → node_reads tree a reading node ≡ node_reads tree b reading node
  by_units reading node is_node =
      elim (cases_Bool (is_above_units tree node)) [
        | inl above ↦ cond-true (is_above_units tree node) _ _ above
            ∙ sym (cond-true (is_above_units tree node) _ _ above)
        | inr low ↦
            cond-false (is_above_units tree node) _ _ low
            ∙ ap (λ q. q || list_any reading (triggers_of tree node))
            (same node (is_node.0, ltb-false (unit_count tree) node low))
            ∙ sym (cond-false (is_above_units tree node) _ _ low)
      ]

  within_rank : (bound node : ℕ) → IsNodeOf tree node → rank_of tree node < bound
      → reads tree a node ≡ reads tree b node
  within_rank zero node is_node low = absurd (omega arith)
  within_rank (suc bound) node is_node low =
      reads-node tree kept a node is_node
      ∙ node_reads-agree tree a (reads tree a) (reads tree b) node
      (λ k d short. within_rank bound (get_or (below tree node) k d) (below_are_nodes kept node k d short)
      (let lower = below_ranks kept node is_node k d short in omega arith))
      ∙ by_units (reads tree b) node is_node
      ∙ sym (reads-node tree kept b node is_node)

  pub reads-by_units : (node : ℕ) → IsNodeOf tree node → reads tree a node ≡ reads tree b node
  reads-by_units node is_node = within_rank (suc (rank_of tree node)) node is_node (omega arith)

-- ---- the units up to a number that pass a test, as a set

pub passing : (ℕ → Bool) → ℕ → List ℕ
passing test zero = []
passing test (suc most) = if test (suc most) then with_unit (suc most) (passing test most) else passing test most

none_rises : IsRising []
unfolding IsStrictlySortedBy
none_rises = tt

module _ (test : ℕ → Bool) where
  pub passing-none : passing test zero ≡ []
  unfolding passing
  passing-none = refl

  pub passing-more : (most : ℕ) → passing test (suc most)
      ≡ (if test (suc most) then with_unit (suc most) (passing test most) else passing test most)
  unfolding passing
  passing-more most = refl

  pub passing_rises : (most : ℕ) → IsRising (passing test most)
  unfolding passing
  passing_rises zero = none_rises
  passing_rises (suc most) =
      cond_both (test (suc most)) (with_unit (suc most) (passing test most)) (passing test most) IsRising
      (λ _. IsRising-with_unit (suc most) (passing test most) (passing_rises most))
      (λ _. passing_rises most)

  pub passing_to : (most unit : ℕ) → among (passing test most) unit ≡ true
      → (1 ≤ unit) × (unit ≤ most) × (test unit ≡ true)
  unfolding passing
  passing_to zero unit has = absurd cc
  passing_to (suc most) unit has =
      cond_both (test (suc most)) (with_unit (suc most) (passing test most)) (passing test most)
      (λ set. among set unit ≡ true → (1 ≤ unit) × (unit ≤ suc most) × (test unit ≡ true))
      (λ passes h. elim (or_cases (suc most == unit) (among (passing test most) unit)
      (sym (among-with_unit (suc most) (passing test most) unit) ∙ h)) [
        | inl here ↦ let same : suc most ≡ unit =
            eqb-true (suc most) unit here in (omega (arith, same), omega (arith, same), ap test (sym same) ∙ passes)
        | inr later ↦ let ih = passing_to most unit later in (ih.0, (let low = ih.1 in omega arith), ih.2)
      ])
      (λ _ h. let ih = passing_to most unit h in (ih.0, (let low = ih.1 in omega arith), ih.2))
      has

  pub passing_from : (most unit : ℕ) → 1 ≤ unit → unit ≤ most → test unit ≡ true → among (passing test most) unit ≡ true
  unfolding passing
  passing_from zero unit some low passes = absurd (omega arith)
  passing_from (suc most) unit some low passes =
      elim (cases_eq (suc most) unit) [
        | inl same ↦
            ap (λ set. among set unit) (cond-true (test (suc most)) (with_unit (suc most) (passing test most))
            (passing test most) (ap test same ∙ passes))
            ∙ among-with_unit (suc most) (passing test most) unit
            ∙ or_left (suc most == unit) (among (passing test most) unit) (eq-eqb (suc most) unit same)
        | inr other ↦
            let lower : among (passing test most) unit ≡ true =
            passing_from most unit some (omega (arith, other)) passes in
            cond_both (test (suc most)) (with_unit (suc most) (passing test most)) (passing test most)
            (λ set. among set unit ≡ true)
            (λ _. among-with_unit (suc most) (passing test most) unit
            ∙ or_right (suc most == unit) (among (passing test most) unit) lower)
            (λ _. lower)
      ]

-- ---- units are taken out as long as the rest still fails the node

-- a minimal set within another
pub record HasMinimal (tree : FaultTree) (node : ℕ) (set : List ℕ) : Type 0 where
  pub part : List ℕ
  pub minimal : IsMinimalFor tree node part
  pub within : Within (among part) (among set)

record Passing (test : ℕ → Bool) (set : List ℕ) : Type 0 where
  member : ℕ
  has : among set member ≡ true
  passes : test member ≡ true

passing_member : {test : ℕ → Bool} (set : List ℕ) → list_any test set ≡ true → Passing test set
passing_member [] h = absurd cc
passing_member {test} (first ∷ others) h =
    elim (or_cases (test first) (list_any test others) h) [
      | inl here ↦ record {
        member = first;
        has = or_left (first == first) (among others first)
            (eq-eqb first first refl);
        passes = here;
      }
      | inr later ↦
          let found : Passing test others = passing_member others later in
          record {
            member = found.member;
            has = or_right (first == found.member) (among others found.member) found.has;
            passes = found.passes;
          }
    ]

none_passes : (test : ℕ → Bool) (set : List ℕ) (member : ℕ) → list_any test set ≡ false → Contains set member
    → test member ≡ false
none_passes test [] member none has = Contains-nil member has
none_passes test (first ∷ others) member none has =
    let parts = or_parts (test first) (list_any test others) none in
    elim (Contains-cons_cases first member others has) [
      | inl same ↦ subst (λ q. test q ≡ false) same parts.0
      | inr later ↦ none_passes test others member parts.1 later
    ]

no_longer : (keep : ℕ → Bool) (set : List ℕ) → length (filter keep set) ≤ length set
no_longer keep [] = omega arith
no_longer keep (first ∷ others) =
    let ih = no_longer keep others in
    cond_both (keep first) (first ∷ filter keep others) (filter keep others)
    (λ left. length left ≤ length (first ∷ others))
    (λ _. omega arith)
    (λ _. omega arith)

-- a list loses a member that is not kept
filter_shorter : (keep : ℕ → Bool) (set : List ℕ) (member : ℕ) → among set member ≡ true → keep member ≡ false
    → length (filter keep set) < length set
filter_shorter keep [] member has goes = absurd cc
filter_shorter keep (first ∷ others) member has goes =
    elim (or_cases (first == member) (among others member) has) [
      | inl here ↦
          let le = no_longer keep others in
          let same : first ≡ member = eqb-true first member here in
          cond_both (keep first) (first ∷ filter keep others) (filter keep others)
          (λ left. length left < length (first ∷ others))
          (λ kept. absurd (false≢true (sym (ap keep same ∙ goes) ∙ kept)))
          (λ _. omega arith)
      | inr later ↦
          let lt = filter_shorter keep others member later goes in
          cond_both (keep first) (first ∷ filter keep others) (filter keep others)
          (λ left. length left < length (first ∷ others))
          (λ _. omega arith)
          (λ _. omega arith)
    ]

pub units_of_all : (tree : FaultTree) (set : List ℕ) → ((unit : ℕ) → among set unit ≡ true → IsUnitOf tree unit)
    → All (IsUnitOf tree) set
units_of_all tree set units =
    All-weaker (Contains set) (IsUnitOf tree) (λ unit has. units unit (among-from_Contains set unit has)) set
    (All-contains_itself set)

inside : (set : List ℕ) (unit : ℕ) → Within (among (without_unit unit set)) (among set)
inside set unit =
    record { kept = λ n has. (and_parts (among set n) (not (n == unit)) (sym (among-without_unit unit set n) ∙ has)).0 }

module _ (tree : FaultTree) (node : ℕ) where
  -- whether the set still fails the node without the unit
  abbrev can_go : List ℕ → ℕ → Bool
  can_go set unit = reads tree (among (without_unit unit set)) node

  -- a set of units that fails the node
  pub record Fails (set : List ℕ) : Type 0 where
    pub rising : IsRising set
    pub units : (unit : ℕ) → among set unit ≡ true → IsUnitOf tree unit
    pub fails : reads tree (among set) node ≡ true

  less : {set : List ℕ} (unit : ℕ) → Fails set → can_go set unit ≡ true → Fails (without_unit unit set)
  less {set} unit f goes = record {
    rising = IsRising-without_unit unit set f.rising;
    units = λ n has. f.units n ((inside set unit).kept n has);
    fails = goes;
  }

  shorter : (set : List ℕ) (unit : ℕ) → among set unit ≡ true → length (without_unit unit set) < length set
  shorter set unit has =
      filter_shorter (λ member. not (member == unit)) set unit has
      (not_from_true (unit == unit) (eq-eqb unit unit refl))

  itself : {set : List ℕ} → Fails set → list_any (can_go set) set ≡ false → HasMinimal tree node set
  itself {set} f none = record {
    part = set;
    minimal = record {
      rising = f.rising;
      units = units_of_all tree set f.units;
      fails = f.fails;
      needed =
          All-weaker (Contains set) (λ unit. can_go set unit ≡ false)
          (λ unit has. none_passes (can_go set) set unit none has) set (All-contains_itself set);
    };
    within = record { kept = λ n has. has };
  }

  of_less : {set : List ℕ} (unit : ℕ) → HasMinimal tree node (without_unit unit set) → HasMinimal tree node set
  of_less {set} unit found = record {
    part = found.part;
    minimal = found.minimal;
    within = record { kept = λ n has. (inside set unit).kept n (found.within.kept n has) };
  }

  pub shrink : (size : ℕ) {set : List ℕ} → length set ≤ size → Fails set → HasMinimal tree node set
  shrink zero {set} small f =
      elim (cases_Bool (list_any (can_go set) set)) [
        | inl some ↦
            let found : Passing (can_go set) set = passing_member set some in
            absurd (let k = shorter set found.member found.has in omega (arith, k))
        | inr none ↦ itself f none
      ]
  shrink (suc size) {set} small f =
      elim (cases_Bool (list_any (can_go set) set)) [
        | inl some ↦
            let found : Passing (can_go set) set = passing_member set some in
            of_less found.member (shrink size (let k = shorter set found.member found.has in
            omega (arith, k)) (less found.member f found.passes))
        | inr none ↦ itself f none
      ]

-- whatever fails a node includes a minimal set of it: the units of the tree in it are tried one by one
pub part_of_failing : {tree : FaultTree} → IsTree tree → (node : ℕ) → IsNodeOf tree node → (within : ℕ → Bool)
    → reads tree within node ≡ true
    → (found : HasMinimal tree node (passing within (unit_count tree)))
    × ((unit : ℕ) → among found.part unit ≡ true → within unit ≡ true)
part_of_failing {tree} kept node is_node within fails =
    let units : List ℕ = passing within (unit_count tree) in
    let of_units : Fails tree node units = record {
      rising = passing_rises within (unit_count tree);
      units = λ unit has. let both = passing_to within (unit_count tree) unit has in (both.0, both.1);
      fails =
          sym (reads-by_units kept within (among (passing within (unit_count tree))) (λ unit is. alike unit is)
          node is_node) ∙ fails;
    } in
    let found : HasMinimal tree node units = shrink tree node (length units) (omega arith) of_units in
    (found, λ unit has. (passing_to within (unit_count tree) unit (found.within.kept unit has)).2)
  where
    alike : (unit : ℕ) → IsUnitOf tree unit → within unit ≡ among (passing within (unit_count tree)) unit
    alike unit is =
        elim (cases_Bool (within unit)) [
          | inl in_it ↦ in_it ∙ sym (passing_from within (unit_count tree) unit is.0 is.1 in_it)
          | inr out_of_it ↦ elim (cases_Bool (among (passing within (unit_count tree)) unit)) [
            | inl has ↦ absurd (false≢true (sym out_of_it ∙ (passing_to within (unit_count tree) unit has).2))
            | inr lacks ↦ out_of_it ∙ sym lacks
          ]
        ]

-- each cut includes a minimal cut
pub includes_minimal : (tree : FaultTree) → IsTree tree → (set : List ℕ) → is_cut tree set ≡ true
    → (part : List ℕ) × IsMinimalCut tree part × (is_within set part ≡ true)
includes_minimal tree kept set cut =
    let found = part_of_failing kept tree.top kept.top_is_node (among set) cut in
    (found.0.part, found.0.minimal, is_within-from_among set found.0.part found.1)
