-- First-fit waves: the wave of the units that are left in front of those of the rest; and two lists of them are one.
use Rattle.std.specs.Prelude.{◌≡◌, ℕ, zero, suc, ◌+◌, ◌<◌, ◌≤◌, Bool, true, false, cond, ◌&&◌, ◌||◌, ◌==◌}
use Rattle.std.specs.Prelude.{List, [], ◌∷◌}
use Rattle.std.specs.Prelude.{◌++◌, length, filter, All}
use Rattle.std.proofs.Common.{refl, sym, ◌∙◌, ap, subst, arith, inl, inr, append-nil, append_assoc, eqb-true}
use Rattle.std.proofs.lemmas.Bool.{and_parts, cases_Bool, cases_eq, cases_lt, cases_order, false_from_ne_true}
use Rattle.std.proofs.lemmas.Bool.{or_cases, or_right}
use Rattle.std.proofs.lemmas.List.{ext_get_or, get_or_past}
use Rattle.std.proofs.lemmas.List.Elements.{All-cons, All-head, All-nil, All-tail, filter-append}
use Rattle.unit_sets.specs.UnitList.{among}
use Rattle.unit_sets.proofs.UnitListLemmas.{among-filter}
use Rattle.residual_ledger.proofs.RowLemmas.{among-append}
use Rattle.margin_policy.specs.Asked.{has_repeat}
use Rattle.wave_planner.specs.{Filling.is_free, Filling.passed, Filling.taken}
use Rattle.wave_planner.specs.Waves.{AreFirstFit, IsAsWanted, IsFree, of_wave, wave_at, waves_with}
use Rattle.margin_policy.proofs.GuardLemmas.{fewer_keep_more}
use Rattle.wave_planner.proofs.FreeLemmas.{free_by_test, not_free, passes_fewer, test_by_free}
use Rattle.wave_planner.proofs.KeptLemmas.{all_of_wanted, at_wave, itself, none_of_wanted, of_wanted, same_kept}
use Rattle.wave_planner.proofs.KeptLemmas.{wanted_through}
use Rattle.wave_planner.proofs.TakenLemmas.{kept_out, parted, passed_as_left, some_taken, taken_as_left, taken_free}

-- ---- waves of units that are wanted

-- a unit that isn't wanted stands in no wave
none_with : (wanted : List ℕ) (waves : List (List ℕ)) (unit : ℕ) → All (IsAsWanted wanted) waves
    → among wanted unit ≡ false → waves_with waves unit ≡ 0
none_with wanted [] unit ordered none = refl
none_with wanted (wave ∷ waves) unit ordered none =
    let others = none_with wanted waves unit (All-tail (IsAsWanted wanted) wave waves ordered) none in
    rw (none_of_wanted wanted wave (All-head (IsAsWanted wanted) wave waves ordered) unit none)
    (omega (arith, others))

-- what holds of all wanted units holds of those of each wave
pub waves_have : {cuts : List (List ℕ)} {margin : ℕ} {wanted : List ℕ} {waves : List (List ℕ)} (P : ℕ → Type 0)
    → AreFirstFit cuts margin wanted waves → All P wanted → All (All P) waves
waves_have {cuts} {margin} {wanted} P fit all k d short = all_of_wanted P wanted _ (fit.ordered k d short) all

-- ---- no units

module _ (cuts : List (List ℕ)) (margin : ℕ) where
  pub no_waves : AreFirstFit cuts margin [] []
  no_waves = record {
    once = λ unit has. absurd cc;
    filled = All-nil (λ wave. 0 < length wave);
    ordered = All-nil (IsAsWanted []);
    free = All-nil (IsFree cuts margin);
    first = λ before rest unit earlier later split less has. absurd cc;
  }

  -- ---- one wave in front

  module _ (first : ℕ) (others : List ℕ) (once : has_repeat (first ∷ others) ≡ false)
      (alone : IsFree cuts margin (first ∷ [])) {more : List (List ℕ)}
      (fit : AreFirstFit cuts margin (passed (is_free cuts margin) [] (first ∷ others)) more) where
    abbrev left : List ℕ
    left = first ∷ others

    abbrev wave : List ℕ
    wave = taken (is_free cuts margin) [] left

    abbrev rest : List ℕ
    rest = passed (is_free cuts margin) [] left

    rest_is : IsAsWanted left rest
    rest_is = passed_as_left (is_free cuts margin) [] left once

    each_once : (unit : ℕ) → among left unit ≡ true → waves_with (wave ∷ more) unit ≡ 1
    each_once unit has =
        let parts = rw has at (parted (is_free cuts margin) [] left once unit) in
        elim (cases_Bool (among rest unit)) [
          | inl later ↦
              let all = rw later at parts in
              let there = fit.once unit later in
              omega arith
          | inr none ↦
              let all = rw none at parts in
              let there = none_with rest more unit fit.ordered none in
              omega arith
        ]

    not_in_wave : (unit : ℕ) → among rest unit ≡ true → among wave unit ≡ false
    not_in_wave unit later =
        one_part (among left unit) (among wave unit) (among rest unit) later
        (parted (is_free cuts margin) [] left once unit)
      where
        one_part : (l w r : Bool) → r ≡ true → cond l 1 0 ≡ cond w 1 0 + cond r 1 0 → w ≡ false
        one_part l false r in_rest parts = refl
        one_part l true false in_rest parts = absurd cc
        one_part true true true in_rest parts = absurd (omega arith)
        one_part false true true in_rest parts = absurd (omega arith)

    may : IsFree cuts margin wave
    may =
        free_by_test cuts margin wave
        (ap (is_free cuts margin) (sym (append-nil wave))
        ∙ taken_free (is_free cuts margin) (passes_fewer cuts margin) [] left
        (passes_fewer cuts margin [] (first ∷ []) (λ unit has. absurd cc)
        (test_by_free cuts margin (first ∷ []) alone)))

    beside_wave : (before behind : List ℕ) (unit : ℕ) → left ≡ before ++ unit ∷ behind → among wave unit ≡ false
        → ¬ IsFree cuts margin (unit ∷ of_wave wave before)
    beside_wave before behind unit split none =
        not_free cuts margin (unit ∷ of_wave wave before)
        (ap (λ l. is_free cuts margin (unit ∷ l)) (sym (append-nil (of_wave wave before)))
        ∙ subst (λ l. among (taken (is_free cuts margin) [] l) unit ≡ false
        → is_free cuts margin (unit ∷ (of_wave (taken (is_free cuts margin) [] l) before ++ [])) ≡ false)
        (sym split) (kept_out (is_free cuts margin) (passes_fewer cuts margin) before behind unit []) none)

    rest_split : (before behind : List ℕ) (unit : ℕ) → left ≡ before ++ unit ∷ behind → among rest unit ≡ true
        → rest ≡ filter (among rest) before ++ unit ∷ filter (among rest) behind
    rest_split before behind unit split has =
        rest_is ∙ ap (filter (among rest)) split ∙ filter-append (among rest) before (unit ∷ behind)
        ∙ ap (λ b. filter (among rest) before
        ++ cond b (unit ∷ filter (among rest) behind) (filter (among rest) behind)) has

    fewer_before : (r : List ℕ) (part before : List ℕ) (unit other : ℕ)
        → among (unit ∷ of_wave part (filter (among r) before)) other ≡ true
        → among (unit ∷ of_wave part before) other ≡ true
    fewer_before r part before unit other has =
        ap (λ b. (unit == other) || b) (among-filter (among part) before other)
        ∙ less (unit == other) (among before other) (among r other) (among part other)
        (sym (ap (λ b. (unit == other) || b) (among-filter (among part) (filter (among r) before) other
        ∙ ap (λ b. b && among part other) (among-filter (among r) before other))) ∙ has)
      where
        less : (u b r p : Bool) → (u || ((b && r) && p)) ≡ true → (u || (b && p)) ≡ true
        less true b r p h = refl
        less false true true p h = h
        less false true false p h = absurd cc
        less false false r p h = absurd cc

    beside_earlier : (before behind : List ℕ) (unit earlier later : ℕ) → left ≡ before ++ unit ∷ behind
        → earlier < later → among (wave_at (wave ∷ more) later) unit ≡ true
        → ¬ IsFree cuts margin (unit ∷ of_wave (wave_at (wave ∷ more) earlier) before)
    beside_earlier before behind unit earlier zero split less has = absurd (omega arith)
    beside_earlier before behind unit zero (suc later) split less has =
        beside_wave before behind unit split
        (not_in_wave unit (of_wanted rest (wave_at more later)
        (at_wave (IsAsWanted rest) more later unit fit.ordered has) unit has))
    beside_earlier before behind unit (suc earlier) (suc later) split less has =
        let left_over = of_wanted rest (wave_at more later)
        (at_wave (IsAsWanted rest) more later unit fit.ordered has) unit has in
        λ free.
        fit.first (filter (among rest) before) (filter (among rest) behind) unit earlier later
        (rest_split before behind unit split left_over) (omega arith) has
        (fewer_keep_more cuts margin (unit ∷ of_wave (wave_at more earlier) (filter (among rest) before))
        (unit ∷ of_wave (wave_at more earlier) before)
        (fewer_before rest (wave_at more earlier) before unit) free)

    pub one_more : AreFirstFit cuts margin left (wave ∷ more)
    one_more = record {
      once = each_once;
      filled =
          All-cons (λ w. 0 < length w) wave more
          (some_taken (is_free cuts margin) first others [] (test_by_free cuts margin (first ∷ []) alone)) fit.filled;
      ordered =
          All-cons (IsAsWanted left) wave more (taken_as_left (is_free cuts margin) [] left once)
          (λ k d short. wanted_through left rest _ rest_is (fit.ordered k d short));
      free = All-cons (IsFree cuts margin) wave more may fit.free;
      first = beside_earlier;
    }

  -- ---- there is one list of them

  module _ (wanted : List ℕ) where
    -- the wave of a unit that stands in exactly one
    record Place (waves : List (List ℕ)) (unit : ℕ) : Type 0 where
      at : ℕ
      here : among (wave_at waves at) unit ≡ true
      only : (other : ℕ) → among (wave_at waves other) unit ≡ true → other ≡ at

    nowhere : (waves : List (List ℕ)) (unit other : ℕ) → waves_with waves unit ≡ 0
        → among (wave_at waves other) unit ≡ true → ⊥
    nowhere [] unit other none has = cc
    nowhere (wave ∷ waves) unit zero none has = let more = rw has at none in omega arith
    nowhere (wave ∷ waves) unit (suc other) none has = nowhere waves unit other (omega arith) has

    place_of : (waves : List (List ℕ)) (unit : ℕ) → waves_with waves unit ≡ 1 → Place waves unit
    place_of [] unit once = absurd (omega arith)
    place_of (wave ∷ waves) unit once = elim (cases_Bool (among wave unit)) [
      | inl has ↦
          let more = rw has at once in
          record { at = 0; here = has; only = first_only (omega arith) }
      | inr none ↦
          let more = rw none at once in
          let later = place_of waves unit (omega arith) in
          record { at = suc later.at; here = later.here; only = later_only none later }
    ]
      where
        first_only : waves_with waves unit ≡ 0 → (other : ℕ) → among (wave_at (wave ∷ waves) other) unit ≡ true
            → other ≡ 0
        first_only none zero has = refl
        first_only none (suc other) has = absurd (nowhere waves unit other none has)

        later_only : among wave unit ≡ false → (later : Place waves unit) → (other : ℕ)
            → among (wave_at (wave ∷ waves) other) unit ≡ true → other ≡ suc later.at
        later_only none later zero has = absurd (cc (none, has))
        later_only none later (suc other) has = ap suc (later.only other has)

    -- each of some units stands in the same wave of both
    abbrev Agree : List (List ℕ) → List (List ℕ) → List ℕ → Type 0
    Agree one two units = (unit : ℕ) → among units unit ≡ true → (at : ℕ)
        → among (wave_at one at) unit ≡ among (wave_at two at) unit

    -- a unit of a later wave of the one might have been in the earlier wave of the other
    clash : (one two : List (List ℕ)) → AreFirstFit cuts margin wanted one → AreFirstFit cuts margin wanted two
        → (before behind : List ℕ) (unit earlier later : ℕ) → wanted ≡ before ++ unit ∷ behind
        → Agree one two before → among (wave_at one earlier) unit ≡ true → among (wave_at two later) unit ≡ true
        → earlier < later → ⊥
    clash one two fits fits' before behind unit earlier later split agree has has' less =
        fits'.first before behind unit earlier later split less has'
        (fewer_keep_more cuts margin (unit ∷ of_wave (wave_at two earlier) before) (wave_at one earlier)
        (λ other inside. elim (or_cases (unit == other) (among (of_wave (wave_at two earlier) before) other) inside) [
          | inl same ↦ there other same
          | inr kept ↦ among_both other kept
        ])
        (at_wave (IsFree cuts margin) one earlier unit fits.free has))
      where
        there : (other : ℕ) → (unit == other) ≡ true → among (wave_at one earlier) other ≡ true
        there other same = rw (← eqb-true unit other same) has

        among_both : (other : ℕ) → among (of_wave (wave_at two earlier) before) other ≡ true
            → among (wave_at one earlier) other ≡ true
        among_both other kept =
            let parts = and_parts (among before other) (among (wave_at two earlier) other)
            (sym (among-filter (among (wave_at two earlier)) before other) ∙ kept) in
            agree other parts.0 earlier ∙ parts.1

    one_place : (one two : List (List ℕ)) → AreFirstFit cuts margin wanted one → AreFirstFit cuts margin wanted two
        → (before behind : List ℕ) (unit : ℕ) → wanted ≡ before ++ unit ∷ behind → Agree one two before
        → (at : ℕ) → among (wave_at one at) unit ≡ among (wave_at two at) unit
    one_place one two fits fits' before behind unit split agree =
        elim (cases_order here.at there.at) [
          | inl same ↦ same_waves same
          | inr (inl less) ↦ absurd (clash one two fits fits' before behind unit here.at there.at split agree
              here.here there.here less)
          | inr (inr more) ↦ absurd (clash two one fits' fits before behind unit there.at here.at split
              (λ u has at. sym (agree u has at)) there.here here.here more)
        ]
      where
        is_wanted : among wanted unit ≡ true
        is_wanted =
            ap (λ l. among l unit) split ∙ among-append before (unit ∷ behind) unit
            ∙ or_right (among before unit) (among (unit ∷ behind) unit) (itself unit behind)

        here : Place one unit
        here = place_of one unit (fits.once unit is_wanted)

        there : Place two unit
        there = place_of two unit (fits'.once unit is_wanted)

        same_waves : here.at ≡ there.at → (at : ℕ) → among (wave_at one at) unit ≡ among (wave_at two at) unit
        same_waves same at = elim (cases_eq at here.at) [
          | inl is ↦ rw is (here.here ∙ sym (rw (← same) at there.here))
          | inr other ↦
              false_from_ne_true (among (wave_at one at) unit) (λ has. other (here.only at has))
              ∙ sym (false_from_ne_true (among (wave_at two at) unit) (λ has. other (there.only at has ∙ sym same)))
        ]

    agree_on : (one two : List (List ℕ)) → AreFirstFit cuts margin wanted one → AreFirstFit cuts margin wanted two
        → (before behind : List ℕ) → wanted ≡ before ++ behind → Agree one two before → Agree one two wanted
    agree_on one two fits fits' before [] split agree = subst (Agree one two) (sym (split ∙ append-nil before)) agree
    agree_on one two fits fits' before (unit ∷ behind) split agree =
        agree_on one two fits fits' (before ++ unit ∷ []) behind
        (split ∙ sym (append_assoc before (unit ∷ []) behind))
        (λ other has. elim (or_cases (among before other) (among (unit ∷ []) other)
        (sym (among-append before (unit ∷ []) other) ∙ has)) [
          | inl early ↦ agree other early
          | inr last ↦ of_unit other last
        ])
      where
        of_unit : (other : ℕ) → among (unit ∷ []) other ≡ true → (at : ℕ)
            → among (wave_at one at) other ≡ among (wave_at two at) other
        of_unit other last at = elim (or_cases (unit == other) false last) [
          | inl same ↦ rw (← eqb-true unit other same) (one_place one two fits fits' before behind unit split agree at)
          | inr none ↦ absurd cc
        ]

    -- there are no fewer waves in the one than in the other
    as_many : (one two : List (List ℕ)) → AreFirstFit cuts margin wanted one → AreFirstFit cuts margin wanted two
        → Agree one two wanted → length two ≤ length one
    as_many one two fits fits' agree = elim (cases_lt (length one) (length two)) [
      | inl short ↦ absurd (some_unit (wave_at two (length one)) (fits'.filled (length one) [] short)
          (fits'.ordered (length one) [] short)
          (λ unit has. agree unit has (length one)))
      | inr enough ↦ enough
    ]
      where
        none_behind : (unit : ℕ) → among (wave_at one (length one)) unit ≡ false
        none_behind unit = ap (λ w. among w unit) (get_or_past one (length one) [] (omega arith))

        some_unit : (wave : List ℕ) → 0 < length wave → IsAsWanted wanted wave
            → ((unit : ℕ) → among wanted unit ≡ true → among (wave_at one (length one)) unit ≡ among wave unit) → ⊥
        some_unit [] filled is same = omega arith
        some_unit (unit ∷ wave) filled is same =
            cc (
              none_behind unit,
              same unit (of_wanted wanted (unit ∷ wave) is unit (itself unit wave)),
              itself unit wave,
            )

    pub one_list : (one two : List (List ℕ)) → AreFirstFit cuts margin wanted one
        → AreFirstFit cuts margin wanted two → one ≡ two
    one_list one two fits fits' =
        ext_get_or [] one two (omega (arith, more, fewer))
        (λ i short.
        fits.ordered i [] short
        ∙ same_kept (among (wave_at one i)) (among (wave_at two i)) wanted (λ unit has. agree unit has i)
        ∙ sym (fits'.ordered i [] (omega (arith, short, fewer))))
      where
        agree : Agree one two wanted
        agree = agree_on one two fits fits' [] wanted refl (λ unit has. absurd cc)

        more : length two ≤ length one
        more = as_many one two fits fits' agree

        fewer : length one ≤ length two
        fewer = as_many two one fits' fits (λ unit has at. sym (agree unit has at))
