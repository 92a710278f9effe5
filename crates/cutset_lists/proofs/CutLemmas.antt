-- The minimal sets of a list that stands for the top event are the cut list.
use Rattle.std.specs.Prelude.{◌≡◌, ℕ, ◌+◌, ◌<◌, ◌≤◌, Bool, true, false, not, ◌||◌, ◌==◌, nat_le, nat_lt, List, [], ◌∷◌}
use Rattle.std.specs.Prelude.{◌++◌, length, take, filter, All, Contains, get_or}
use Rattle.std.specs.{List.list_any, List.list_all, List.Sorted.IsStrictlySortedBy, Ordering.nat_cmp}
use Rattle.std.specs.{declared.cmp.Ordering.TheVariants.Less}
use Rattle.std.proofs.Common.{refl, sym, ◌∙◌, ap, subst, inl, inr, arith}
use Rattle.std.proofs.lemmas.Bool.{and_parts, and_from, and_cases, or_cases, or_parts, or_left, or_right, cases_Bool}
use Rattle.std.proofs.lemmas.Bool.{cases_order, cond_both, cond-true, cond-false, false_from_ne_true, leb-true, lt-ltb}
use Rattle.std.proofs.lemmas.Bool.{ne_eqb, not_from_true, not_from_false}
use Rattle.std.proofs.{lemmas.Bool.Decides.nat_tests, lemmas.List.take_more}
use Rattle.std.proofs.lemmas.List.Elements.{All-nil, All-cons, All-contains, All-from_recursion, All-weaker}
use Rattle.std.proofs.lemmas.List.Elements.{All-contains_itself}
use Rattle.unit_sets.proofs.Sorted.{Contains-cons_first, Contains-cons_other, Contains-cons_cases, Contains-nil}
use Rattle.unit_sets.proofs.Sorted.{sorted-take}
use Rattle.unit_sets.specs.UnitList.{among, IsRising, without_unit, is_within, some_within}
use Rattle.unit_sets.proofs.UnitListLemmas.{among-without_unit, Contains-from_among}
use Rattle.unit_sets.proofs.UnitListLemmas.{among-from_Contains, among-from_is_within, is_within-from_among, same_set}
use Rattle.unit_sets.proofs.UnitListLemmas.{IsRising-without_unit}
use Rattle.unit_sets.specs.CutOrder.{cut_cmp, IsInCutOrder}
use Rattle.fault_definitions.specs.Tree.{FaultTree, IsUnitOf, unit_count}
use Rattle.fault_definitions.specs.{WellFormed.IsTree, Reading.reads, Cut.IsMinimalCut, Cut.IsCutList}
use Rattle.fault_definitions.proofs.ReadingLaws.{reads-empty}
use Rattle.cutset_lists.specs.Sets.{IsSetOf, AreSetsOf, is_smaller_within, IsSharp, IsMinimalFrom}
use Rattle.cutset_lists.specs.Generation.{is_unit_of, Generates}
use Rattle.cutset_lists.proofs.{SetLemmas.same_bool, MinimalLemmas.same_by_test}

-- ---- sizes of rising sets

less_from : (a b : ℕ) → nat_cmp a b ≡ Less → a < b
less_from a b h = grind (arith, nat_tests)

-- the first of a rising set is below the others
below_first : (first unit : ℕ) (others : List ℕ) → IsRising (first ∷ others) → among others unit ≡ true → first < unit
unfolding IsStrictlySortedBy
below_first first unit others rising here =
    less_from first unit (All-contains (λ n. nat_cmp first n ≡ Less) others unit
    (All-from_recursion (λ n. nat_cmp first n ≡ Less) others rising.0) (Contains-from_among others unit here))

rising_rest : (first : ℕ) (others : List ℕ) → IsRising (first ∷ others) → IsRising others
unfolding IsStrictlySortedBy
rising_rest first others rising = rising.1

-- what lies above the first of a set and within the set lies within the others
within_rest : (first : ℕ) (others smaller : List ℕ) → ((n : ℕ) → among smaller n ≡ true → first < n)
    → is_within (first ∷ others) smaller ≡ true → is_within others smaller ≡ true
within_rest first others smaller above inside =
    is_within-from_among others smaller (λ n here.
    elim (or_cases (first == n) (among others n) (among-from_is_within (first ∷ others) smaller n inside here)) [
      | inl same ↦ let e : first ≡ n = same_by_test same in let low : first < n = above n here in absurd (omega arith)
      | inr later ↦ later
    ])

-- what is in a rising set is its first or above it
from_first : (low first : ℕ) (others : List ℕ) → low < first → IsRising (first ∷ others) → (n : ℕ)
    → among (first ∷ others) n ≡ true → low < n
from_first low first others below rising n here =
    elim (or_cases (first == n) (among others n) here) [
      | inl same ↦ let e : first ≡ n = same_by_test same in omega arith
      | inr later ↦ let above : first < n = below_first first n others rising later in omega arith
    ]

-- a rising set within a rising set is no larger
no_longer : (set smaller : List ℕ) → IsRising set → IsRising smaller → is_within set smaller ≡ true
    → length smaller ≤ length set
no_longer [] [] rising rising' inside = omega arith
no_longer [] (first' ∷ others') rising rising' inside = absurd cc
no_longer (first ∷ others) [] rising rising' inside = omega arith
no_longer (first ∷ others) (first' ∷ others') rising rising' inside =
    let parts = and_parts (among (first ∷ others) first') (is_within (first ∷ others) others') inside in
    elim (cases_order first first') [
      | inl same ↦
          let rest : is_within others others' ≡ true =
          within_rest first others others' (λ n here. let above : first' < n =
          below_first first' n others' rising' here in omega arith) parts.1 in
          let ih : length others' ≤ length others =
          no_longer others others' (rising_rest first others rising) (rising_rest first' others' rising') rest in
          omega arith
      | inr (inl below) ↦
          let rest : is_within others (first' ∷ others') ≡ true =
          within_rest first others (first' ∷ others') (from_first first first' others' below rising') inside in
          let ih : length (first' ∷ others') ≤ length others =
          no_longer others (first' ∷ others') (rising_rest first others rising) rising' rest in
          omega arith
      | inr (inr over) ↦
          elim (or_cases (first == first') (among others first') parts.0) [
            | inl same ↦ let e : first ≡ first' = same_by_test same in absurd (omega arith)
            | inr later ↦ let above : first < first' =
                below_first first first' others rising later in absurd (omega arith)
          ]
    ]

filter_no_longer : (keep : ℕ → Bool) (set : List ℕ) → length (filter keep set) ≤ length set
filter_no_longer keep [] = omega arith
filter_no_longer keep (first ∷ others) =
    let ih : length (filter keep others) ≤ length others = filter_no_longer keep others in
    cond_both (keep first) (first ∷ filter keep others) (filter keep others)
    (λ kept. length kept ≤ length (first ∷ others)) (λ _. omega arith) (λ _. omega arith)

-- a set without one of its units is smaller
shorter_without : (unit : ℕ) (set : List ℕ) → among set unit ≡ true → length (without_unit unit set) < length set
shorter_without unit [] here = absurd cc
shorter_without unit (first ∷ others) here =
    let rest : length (without_unit unit others) ≤ length others =
    filter_no_longer (λ member. not (member == unit)) others in
    elim (cases_Bool (first == unit)) [
      | inl same ↦
          let e : length (without_unit unit (first ∷ others)) ≡ length (without_unit unit others) =
          ap length (cond-false (not (first == unit)) (first ∷ without_unit unit others) (without_unit unit others)
          (not_from_true (first == unit) same)) in
          omega arith
      | inr other ↦
          let e : length (without_unit unit (first ∷ others)) ≡ length (first ∷ without_unit unit others) =
          ap length (cond-true (not (first == unit)) (first ∷ without_unit unit others) (without_unit unit others)
          (not_from_false (first == unit) other)) in
          let later : among others unit ≡ true = sym (ap (λ b. b || among others unit) other) ∙ here in
          let ih : length (without_unit unit others) < length others = shorter_without unit others later in
          omega arith
    ]

-- ---- where a list is true

-- a list that is true has a set within
hit_by : (sets : List (List ℕ)) (within : ℕ → Bool) → some_within sets within ≡ true
    → (set : List ℕ) × Contains sets set × (list_all within set ≡ true)
hit_by [] within hit = absurd cc
hit_by (first ∷ others) within hit =
    elim (or_cases (list_all within first) (some_within others within) hit) [
      | inl here ↦ (first, Contains-cons_first first others, here)
      | inr later ↦ let found =
          hit_by others within later in (found.0, Contains-cons_other first found.0 others found.1, found.2)
    ]

-- a list is true where a set of it lies within
hit_from : (sets : List (List ℕ)) (set : List ℕ) (within : ℕ → Bool) → Contains sets set → list_all within set ≡ true
    → some_within sets within ≡ true
hit_from [] set within here inside = Contains-nil set here
hit_from (first ∷ others) set within here inside =
    elim (Contains-cons_cases first set others here) [
      | inl same ↦ or_left (list_all within first) (some_within others within)
          (subst (λ (s : List ℕ). list_all within s ≡ true) (sym same) inside)
      | inr later ↦ or_right (list_all within first) (some_within others within)
          (hit_from others set within later inside)
    ]

itself_within : (set : List ℕ) → is_within set set ≡ true
itself_within set = is_within-from_among set set (λ _ h. h)

-- a test that no set passes fails at each
none_at : (test : List ℕ → Bool) (sets : List (List ℕ)) (set : List ℕ) → list_any test sets ≡ false → Contains sets set
    → test set ≡ false
none_at test [] set none here = Contains-nil set here
none_at test (first ∷ others) set none here =
    let parts = or_parts (test first) (list_any test others) none in
    elim (Contains-cons_cases first set others here) [
      | inl same ↦ subst (λ (s : List ℕ). test s ≡ false) same parts.0
      | inr later ↦ none_at test others set parts.1 later
    ]

none_smaller : (sets : List (List ℕ)) (set smaller : List ℕ) → IsSharp sets → Contains sets set → Contains sets smaller
    → length smaller < length set → is_within set smaller ≡ false
none_smaller sets set smaller sharp here there shorter =
    let none : list_any (is_smaller_within set) sets ≡ false =
    All-contains (λ s. list_any (is_smaller_within s) sets ≡ false) sets set sharp here in
    elim (and_cases (nat_lt (length smaller) (length set)) (is_within set smaller)
    (none_at (is_smaller_within set) sets smaller none there)) [
      | inl no_less ↦ let less : nat_lt (length smaller) (length set) ≡ true =
          lt-ltb (length smaller) (length set) shorter in absurd cc
      | inr outside ↦ outside
    ]

-- the units that pass the test are the tree's
units_of_tree : (tree : FaultTree) (set : List ℕ) → list_all (is_unit_of tree) set ≡ true → All (IsUnitOf tree) set
units_of_tree tree [] pass = All-nil (IsUnitOf tree)
units_of_tree tree (first ∷ others) pass =
    let parts = and_parts (is_unit_of tree first) (list_all (is_unit_of tree) others) pass in
    let both = and_parts (nat_le 1 first) (nat_le first (unit_count tree)) parts.0 in
    All-cons (IsUnitOf tree) first others (leb-true 1 first both.0, leb-true first (unit_count tree) both.1)
    (units_of_tree tree others parts.1)

module _ {tree : FaultTree} (kept : IsTree tree) {made minimal : List (List ℕ)}
    (generates : Generates tree tree.top made) (is : IsMinimalFrom made minimal) where
  sets_of : AreSetsOf (is_unit_of tree) minimal
  sets_of =
      All-weaker (Contains made) (IsSetOf (is_unit_of tree))
      (λ s here. All-contains (IsSetOf (is_unit_of tree)) made s generates.sets here) minimal is.members

  set_of : (set : List ℕ) → Contains minimal set → IsSetOf (is_unit_of tree) set
  set_of set here = All-contains (IsSetOf (is_unit_of tree)) minimal set sets_of here

  reads_by : (within : ℕ → Bool) → some_within minimal within ≡ reads tree within tree.top
  reads_by within = is.some_within within ∙ generates.some_within within

  -- no set of the list lies within a set of it without one unit
  needed : (set : List ℕ) (unit : ℕ) → Contains minimal set → among set unit ≡ true
      → reads tree (among (without_unit unit set)) tree.top ≡ false
  needed set unit here member =
      sym (reads_by (among (without_unit unit set)))
      ∙ false_from_ne_true (some_within minimal (among (without_unit unit set))) (λ hit.
      let found = hit_by minimal (among (without_unit unit set)) hit in
      let smaller : List ℕ = found.0 in
      let rising : IsRising set = (set_of set here).rising in
      let inside : is_within (without_unit unit set) smaller ≡ true = found.2 in
      let size : length smaller ≤ length (without_unit unit set) =
      no_longer (without_unit unit set) smaller (IsRising-without_unit unit set rising)
      (set_of smaller found.1).rising inside in
      let shorter : length (without_unit unit set) < length set = shorter_without unit set member in
      let in_set : is_within set smaller ≡ true =
      is_within-from_among set smaller (λ n h. (and_parts (among set n) (not (n == unit))
      (sym (among-without_unit unit set n) ∙ among-from_is_within (without_unit unit set) smaller n inside
      h)).0) in
      let not_in_set : is_within set smaller ≡ false =
      none_smaller minimal set smaller is.sharp here found.1 (omega arith) in
      absurd cc)

  sound : All (IsMinimalCut tree) minimal
  sound = All-weaker (Contains minimal) (IsMinimalCut tree) (λ set here. record {
    rising = (set_of set here).rising;
    units = units_of_tree tree set (set_of set here).pass;
    fails = sym (reads_by (among set)) ∙ hit_from minimal set (among set) here (itself_within set);
    needed =
        All-weaker (Contains set) (λ unit. reads tree (among (without_unit unit set)) tree.top ≡ false)
        (λ unit member. needed set unit here (among-from_Contains set unit member)) set (All-contains_itself set);
  }) minimal (All-contains_itself minimal)

  -- a set of the list within a minimal cut has all of its units
  all_units : {cut : List ℕ} (set : List ℕ) → IsMinimalCut tree cut → Contains minimal set → is_within cut set ≡ true
      → (unit : ℕ)
      → among cut unit ≡ true → among set unit ≡ true
  all_units {cut} set minimal_cut here inside unit member =
      elim (cases_Bool (among set unit)) [
        | inl is_member ↦ is_member
        | inr no_member ↦
            let without : is_within (without_unit unit cut) set ≡ true =
            is_within-from_among (without_unit unit cut) set (λ n h.
            among-without_unit unit cut n ∙ and_from (among cut n) (not (n == unit))
            (among-from_is_within cut set n inside h)
            (not_from_false (n == unit) (ne_eqb n unit (λ same. let clash : among set unit ≡ true =
            subst (λ (q : ℕ). among set q ≡ true) same h in absurd cc)))) in
            let fails : reads tree (among (without_unit unit cut)) tree.top ≡ true =
            sym (reads_by (among (without_unit unit cut)))
            ∙ hit_from minimal set (among (without_unit unit cut)) here without in
            let lives : reads tree (among (without_unit unit cut)) tree.top ≡ false =
            All-contains (λ u. reads tree (among (without_unit u cut)) tree.top ≡ false) cut unit minimal_cut.needed
            (Contains-from_among cut unit member) in
            absurd cc
      ]

  complete : (cut : List ℕ) → IsMinimalCut tree cut → Contains minimal cut
  complete cut minimal_cut =
      let found = hit_by minimal (among cut) (reads_by (among cut) ∙ minimal_cut.fails) in
      let set : List ℕ = found.0 in
      let same : set ≡ cut =
      same_set set cut (set_of set found.1).rising minimal_cut.rising
      (λ unit. same_bool (among set unit) (among cut unit) (among-from_is_within cut set unit found.2)
      (all_units set minimal_cut found.1 found.2 unit)) in
      subst (λ (s : List ℕ). Contains minimal s) same found.1

  pub IsCutList-minimal : IsCutList tree minimal
  IsCutList-minimal = record { sound = sound; complete = complete; ordered = is.ordered }

  -- the empty set is no cut
  filled : (set : List ℕ) → Contains minimal set → 0 < length set
  filled [] here =
      let fails : reads tree (among []) tree.top ≡ true =
      sym (reads_by (among [])) ∙ hit_from minimal [] (among []) here refl in
      let lives : reads tree (among []) tree.top ≡ false = reads-empty kept (among []) (λ _. refl) tree.top in
      absurd cc
  filled (first ∷ others) here = omega arith

  pub all_filled : All (λ set. 0 < length set) minimal
  all_filled = All-weaker (Contains minimal) (λ set. 0 < length set) filled minimal (All-contains_itself minimal)

  pub all_rising : All IsRising minimal
  all_rising =
      All-weaker (Contains minimal) IsRising (λ set here. (set_of set here).rising) minimal
      (All-contains_itself minimal)

-- the sets before a place, and then the set there, are in order
pub next_in_order : (sets cuts : List (List ℕ)) (i : ℕ) {set : List ℕ} → IsInCutOrder sets → i < length sets
    → set ≡ get_or sets i [] → cuts ≡ take i sets → IsInCutOrder (cuts ++ set ∷ [])
next_in_order sets cuts i {set} ordered short set_is cuts_is =
    subst IsInCutOrder (take_more sets i [] short ∙ ap (λ s. take i sets ++ s ∷ []) (sym set_is)
    ∙ ap (λ c. c ++ set ∷ []) (sym cuts_is)) (sorted-take cut_cmp (i + 1) sets ordered)
