-- After each grant of a safe history the tree bears what the margin says: every cut set keeps more, and each cut
-- includes a cut set.
use Rattle.std.specs.Prelude.{◌≡◌, ℕ, suc, ◌<◌, ◌≤◌, Bool, true, false, not, ◌==◌, List, [], ◌∷◌, ◌++◌, length, filter}
use Rattle.std.specs.Prelude.{Contains}
use Rattle.std.specs.{List.Sorted.IsStrictlySortedBy, Ordering.nat_cmp, declared.cmp.Ordering.TheVariants.Less}
use Rattle.std.proofs.Common.{sym, subst, ◌∙◌, ap, refl, inl, inr, arith, eq-eqb}
use Rattle.std.proofs.lemmas.Bool.{cases_Bool, and_parts, and_from, ne_eqb, not_from_false, or_left, or_right}
use Rattle.std.proofs.lemmas.Bool.{false≢true, cond-true, cond-false, cond_both, eqb-true, le-leb, or_cases}
use Rattle.std.proofs.lemmas.List.Elements.{All-contains, All-from_recursion}
use Rattle.std.proofs.lemmas.List.Kept.{IsStrictlySortedBy-filter}
use Rattle.unit_sets.specs.UnitList.{among, outside, is_within, without_unit, IsRising}
use Rattle.unit_sets.proofs.UnitListLemmas.{among-filter}
use Rattle.unit_sets.proofs.UnitListLemmas.{among-without_unit, among-from_is_within, Contains-from_among}
use Rattle.unit_sets.proofs.Sorted.{Contains-nil, Contains-cons_cases}
use Rattle.fault_definitions.specs.{Tree.FaultTree, Cut.IsCutList, Cut.is_cut, FailingOrder.is_admissible}
use Rattle.fault_definitions.specs.{FailingOrder.is_failing, Step.step, WellFormed.IsTree}
use Rattle.fault_definitions.proofs.{MinimalCuts.includes_minimal, StepLaws.step-reads}
use Rattle.residual_ledger.specs.Residual.{residual}
use Rattle.residual_ledger.specs.Tight.{is_tight, numbers_from, tight}
use Rattle.margin_policy.specs.{Guard.KeepsMore, Held.units_out, Standing.StandingView}
use Rattle.outage_board.specs.{Histories.after_entry, Histories.standing_after, Safety.IsSafe}
use Rattle.outage_board.specs.{declared.entry.Entry.Entry, Boards.Deck}
use Rattle.std.specs.Prelude.{is_some}
use Rattle.outage_engine.specs.Safety.{Bears, BearsThroughout}

-- ---- a rising list whose members another list has is no longer

kept_no_longer : (keep : ℕ → Bool) (set : List ℕ) → length (filter keep set) ≤ length set
kept_no_longer keep [] = omega arith
kept_no_longer keep (first ∷ others) =
    let rest = kept_no_longer keep others in
    cond_both (keep first) (first ∷ filter keep others) (filter keep others)
    (λ left. length left ≤ length (first ∷ others)) (λ _. omega arith) (λ _. omega arith)

-- a list loses a member that is not kept
filter_shorter : (keep : ℕ → Bool) (set : List ℕ) (member : ℕ) → among set member ≡ true → keep member ≡ false
    → length (filter keep set) < length set
filter_shorter keep [] member has goes = absurd cc
filter_shorter keep (first ∷ others) member has goes =
    elim (or_cases (first == member) (among others member) has) [
      | inl here ↦
          let le = kept_no_longer keep others in
          let same : first ≡ member = eqb-true first member here in
          cond_both (keep first) (first ∷ filter keep others) (filter keep others)
          (λ left. length left < length (first ∷ others))
          (λ kept. absurd (false≢true (sym (ap keep same ∙ goes) ∙ kept)))
          (λ _. omega arith)
      | inr later ↦
          let lt = filter_shorter keep others member later goes in
          cond_both (keep first) (first ∷ filter keep others) (filter keep others)
          (λ left. length left < length (first ∷ others)) (λ _. omega arith) (λ _. omega arith)
    ]

rest_within : (first : ℕ) (part set : List ℕ) → IsRising (first ∷ part)
    → ((unit : ℕ) → among (first ∷ part) unit ≡ true → among set unit ≡ true)
    → (unit : ℕ) → among part unit ≡ true → among (without_unit first set) unit ≡ true
unfolding IsStrictlySortedBy
rest_within first part set rising each unit has =
    among-without_unit first set unit
    ∙ and_from (among set unit) (not (unit == first)) (each unit (or_right (first == unit) (among part unit) has))
    (not_from_false (unit == first) (ne_eqb unit first
    (λ same. not_below first (subst (λ u. nat_cmp first u ≡ Less) same
    (All-contains (λ other. nat_cmp first other ≡ Less) part unit
    (All-from_recursion (λ other. nat_cmp first other ≡ Less) part rising.0)
    (Contains-from_among part unit has))))))
  where
    not_below : (n : ℕ) → nat_cmp n n ≡ Less → ⊥
    not_below n below = grind (arith, nat_cmp)

no_longer : (part set : List ℕ) → IsRising part → ((unit : ℕ) → among part unit ≡ true → among set unit ≡ true)
    → length part ≤ length set
unfolding IsStrictlySortedBy
no_longer [] set rising each = omega arith
no_longer (first ∷ part) set rising each =
    let here : among set first ≡ true =
    each first (or_left (first == first) (among part first) (eq-eqb first first refl)) in
    let less = filter_shorter (λ member. not (member == first)) set first here (gone first) in
    let rest = no_longer part (without_unit first set) rising.1 (rest_within first part set rising each) in
    omega (arith, less, rest)
  where
    gone : (n : ℕ) → not (n == n) ≡ false
    gone n = ap not (eq-eqb n n refl)

-- what is left of a rising part of a set is no longer than what is left of the set
left_of_part : (out part set : List ℕ) → IsRising part → is_within set part ≡ true
    → length (outside out part) ≤ length (outside out set)
left_of_part out part set rising within =
    no_longer (outside out part) (outside out set)
    (IsStrictlySortedBy-filter nat_cmp (λ member. not (among out member)) part rising)
    (λ unit has.
    let both =
    and_parts (among part unit) (not (among out unit))
    (sym (among-filter (λ member. not (among out member)) part unit) ∙ has) in
    among-filter (λ member. not (among out member)) set unit
    ∙ and_from (among set unit) (not (among out unit)) (among-from_is_within set part unit within both.0) both.1)

-- ---- where no cut set is tight, each keeps more

not_tight : (number : ℕ) (test : List ℕ → Bool) (cuts : List (List ℕ)) (cut : List ℕ)
    → numbers_from number test cuts ≡ [] → Contains cuts cut → test cut ≡ false
not_tight number test [] cut none has = Contains-nil cut has
not_tight number test (first ∷ cuts) cut none has =
    elim (cases_Bool (test first)) [
      | inl tight ↦ let clash =
          sym (cond-true (test first) (number ∷ numbers_from (suc number) test cuts)
          (numbers_from (suc number) test cuts) tight) ∙ none in absurd cc
      | inr more ↦ elim (Contains-cons_cases first cut cuts has) [
        | inl same ↦ ap test (sym same) ∙ more
        | inr later ↦ not_tight (suc number) test cuts cut
            (sym (cond-false (test first) (number ∷ numbers_from (suc number) test cuts)
            (numbers_from (suc number) test cuts) more) ∙ none) later
      ]
    ]

keeps_more : (out : List ℕ) (most : ℕ) (cuts : List (List ℕ)) (cut : List ℕ) → tight out most cuts ≡ []
    → Contains cuts cut → most < residual out cut
keeps_more out most cuts cut none has =
    let above : is_tight out most cut ≡ false = not_tight 1 (is_tight out most) cuts cut none has in
    let not_le : ¬ (residual out cut ≤ most) = λ le. false≢true (sym above ∙ le-leb (residual out cut) most le) in
    omega (arith, not_le)

-- ---- the cut sets of a standing stay

cuts_stay : (standing : StandingView) (history : List Entry) → (standing_after standing history).cuts ≡ standing.cuts
cuts_stay standing [] = refl
cuts_stay standing (entry ∷ history) = cuts_stay (after_entry standing entry) history

-- ---- what the tree bears

module _ {tree : FaultTree} (kept : IsTree tree) {cuts : List (List ℕ)} (list : IsCutList tree cuts) where
  no_cut : (standing : StandingView) → standing.cuts ≡ cuts → KeepsMore standing → (set : List ℕ)
      → length (outside (units_out standing.held) set) ≤ standing.margin → is_cut tree set ≡ false
  no_cut standing same keeps set few =
      elim (cases_Bool (is_cut tree set)) [
        | inl cut ↦
            let found = includes_minimal tree kept set cut in
            let out : List ℕ = units_out standing.held in
            let more : standing.margin < residual out found.0 =
            keeps_more out standing.margin cuts found.0 (subst (λ c. tight out standing.margin c ≡ []) same keeps)
            (list.complete found.0 found.1) in
            let less : residual out found.0 ≤ length (outside out set) =
            left_of_part out found.0 set found.1.rising found.2 in
            absurd (omega (arith, more, less, few))
        | inr none ↦ none
      ]

  bears : {standing : StandingView} → standing.cuts ≡ cuts → KeepsMore standing → Bears tree standing
  bears {standing} same keeps = record {
    sets = no_cut standing same keeps;
    orders = λ order few.
        elim (cases_Bool (is_failing tree order)) [
          | inl fails ↦
              let cut : is_cut tree order ≡ true =
              step-reads tree order tree.top (and_parts (is_admissible tree order)
              (is_some (step tree order tree.top)) fails).1 in
              absurd (false≢true (sym (no_cut standing same keeps order few) ∙ cut))
          | inr none ↦ none
        ];
  }

  pub bears_throughout : (deck : Deck) (history : List Entry) → deck.opening.cuts ≡ cuts → IsSafe deck.opening history
      → BearsThroughout tree deck history
  bears_throughout deck history same safe before entry rest parts grant =
      bears (cuts_stay deck.opening (before ++ entry ∷ []) ∙ same) (safe before entry rest parts grant)
