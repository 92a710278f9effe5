-- The steps of the loops that fill waves.
use Rattle.std.specs.Prelude.{◌≡◌, ℕ, ◌+◌, ◌<◌, ◌≤◌, Bool, true, false, not, ◌&&◌, ◌||◌, ◌==◌, List, [], ◌∷◌, ◌++◌}
use Rattle.std.specs.Prelude.{length, drop, take, get_or, All, slice_get, Some, None}
use Rattle.std.proofs.Common.{refl, sym, ◌∙◌, ap, subst, arith, inl, inr, append-nil, append_assoc, eqb-true, eq-eqb}
use Rattle.std.proofs.lemmas.Bool.{cases_Bool, false_from_ne_true, or_from, or_parts, Decides.nat_tests}
use Rattle.std.proofs.lemmas.List.{drop_more, nil_from_length, take-append-drop}
use Rattle.std.proofs.lemmas.List.Elements.{All-head, All-more}
use Rattle.unit_sets.specs.UnitList.{among, with_unit, without_unit}
use Rattle.unit_sets.proofs.UnitListLemmas.{among-with_unit, among-without_unit}
use Rattle.residual_ledger.specs.{Ledger.LedgerView, Tight.tight}
use Rattle.residual_ledger.proofs.RowLemmas.{among-append}
use Rattle.margin_policy.specs.Asked.{has_repeat}
use Rattle.wave_planner.specs.{Ends.AreFreeAlone, Ends.IsFirstStuck, Waves.AreFirstFit, Waves.IsFree}
use Rattle.wave_planner.specs.Filling.{is_free, out_after, passed, taken}
use Rattle.wave_planner.proofs.FreeLemmas.{PassesFewer, passes_fewer, test_by_free}
use Rattle.wave_planner.proofs.KeptLemmas.{all_of_wanted, apart, behind, itself, once_of_wanted}
use Rattle.wave_planner.proofs.TakenLemmas.{fewer_left, passed_as_left, taken_as_left}
use Rattle.wave_planner.proofs.FirstFitLemmas.{no_waves, one_more}

-- ---- the next of some units

-- what is ahead begins with the unit whose turn it is
pub ahead : (units : List ℕ) (i : ℕ) {unit : ℕ} → i < length units → unit ≡ get_or units i unit
    → drop i units ≡ unit ∷ drop (i + 1) units
ahead units i {unit} short at =
    drop_more units i unit short ∙ ap (λ (u : ℕ). u ∷ drop (i + 1) units) (sym at)

-- ---- a wave and the rest, while the units that are left are gone through

pub record IsParting (free : List ℕ → Bool) (left ahead out wave rest : List ℕ) : Type 0 where
  pub in_wave : wave ++ taken free out ahead ≡ taken free [] left
  pub in_rest : rest ++ passed free out ahead ≡ passed free [] left
  pub differ : has_repeat ahead ≡ false
  pub in_service : (unit : ℕ) → among ahead unit ≡ true → among out unit ≡ false
  pub out_now : (unit : ℕ) → among out unit ≡ among wave unit
  pub may : free out ≡ true

module _ (free : List ℕ → Bool) where
  pub parting_begins : {left out wave rest : List ℕ} → has_repeat left ≡ false → free [] ≡ true → out ≡ []
      → wave ≡ [] → rest ≡ [] → IsParting free left left out wave rest
  parting_begins {left} once may none no_wave no_rest = rw (none, no_wave, no_rest) (record {
    in_wave = refl;
    in_rest = refl;
    differ = once;
    in_service = λ unit has. refl;
    out_now = λ unit. refl;
    may = may;
  })

  turned : (here was : Bool) → (here || was) ≡ (was || (here || false))
  turned true true = refl
  turned true false = refl
  turned false true = refl
  turned false false = refl

  one_tried : {left later out wave rest : List ℕ} (unit : ℕ) → PassesFewer free
      → IsParting free left (unit ∷ later) out wave rest
      → IsParting free left later (out_after free out unit) (wave ++ taken free out (unit ∷ []))
      (rest ++ passed free out (unit ∷ []))
  one_tried {left} {later} {out} {wave} {rest} unit fewer was =
      let parts = or_parts (among later unit) (has_repeat later) was.differ in
      elim (cases_Bool (free (unit ∷ out))) [
        | inl hit ↦ rw hit (record {
          in_wave = append_assoc wave (unit ∷ []) (taken free (with_unit unit out) later) ∙ rw hit at was.in_wave;
          in_rest = ap (λ l. l ++ passed free (with_unit unit out) later) (append-nil rest) ∙ rw hit at was.in_rest;
          differ = parts.1;
          in_service = λ other has. among-with_unit unit out other
              ∙ or_from (unit == other) (among out other) (apart later unit other parts.0 has)
              (was.in_service other (behind unit other later has));
          out_now = λ other. among-with_unit unit out other
              ∙ ap (λ b. (unit == other) || b) (was.out_now other)
              ∙ turned (unit == other) (among wave other) ∙ sym (among-append wave (unit ∷ []) other);
          may = fewer (with_unit unit out) (unit ∷ out) (λ other has. sym (among-with_unit unit out other) ∙ has) hit;
        })
        | inr miss ↦ rw miss (record {
          in_wave = ap (λ l. l ++ taken free out later) (append-nil wave) ∙ rw miss at was.in_wave;
          in_rest = append_assoc rest (unit ∷ []) (passed free out later) ∙ rw miss at was.in_rest;
          differ = parts.1;
          in_service = λ other has. was.in_service other (behind unit other later has);
          out_now = λ other. was.out_now other ∙ ap (λ l. among l other) (sym (append-nil wave));
          may = was.may;
        })
      ]

  pub parting_goes_on : {left now later out wave rest out' wave' rest' : List ℕ} (test : List ℕ → Bool) (unit : ℕ)
      → PassesFewer free → test ≡ free → now ≡ unit ∷ later → out' ≡ out_after test out unit
      → wave' ≡ wave ++ taken test out (unit ∷ []) → rest' ≡ rest ++ passed test out (unit ∷ [])
      → IsParting free left now out wave rest → IsParting free left later out' wave' rest'
  parting_goes_on {left} {now} {later} {out} {wave} {rest} test unit fewer same next went in_wave in_rest was =
      rw (went, in_wave, in_rest, same)
      (one_tried unit fewer (subst (λ l. IsParting free left l out wave rest) next was))

  -- the unit whose turn it is is in service
  pub turn_in_service : {left now later out wave rest : List ℕ} (unit : ℕ) → now ≡ unit ∷ later
      → IsParting free left now out wave rest → among out unit ≡ false
  turn_in_service {later} unit next was =
      was.in_service unit (ap (λ l. among l unit) next ∙ itself unit later)

  pub parting_ends : {left now out wave rest : List ℕ} → now ≡ [] → IsParting free left now out wave rest
      → (wave ≡ taken free [] left) × (rest ≡ passed free [] left)
  parting_ends {out} {wave} {rest} none was = (
    sym (append-nil wave) ∙ ap (λ l. wave ++ taken free out l) (sym none) ∙ was.in_wave,
    sym (append-nil rest) ∙ ap (λ l. rest ++ passed free out l) (sym none) ∙ was.in_rest,
  )

-- ---- a wave has units that are left, each once

module _ (free : List ℕ → Bool) {left items wave : List ℕ} where
  pub wave_differs : items ≡ left → wave ≡ taken free [] items → has_repeat left ≡ false → has_repeat wave ≡ false
  wave_differs same is once =
      let differ = ap has_repeat same ∙ once in
      ap has_repeat is ∙ once_of_wanted items (taken free [] items) (taken_as_left free [] items differ) differ

  pub wave_known : {units units' : ℕ} → units' ≡ units → items ≡ left → wave ≡ taken free [] items
      → has_repeat left ≡ false → All (λ unit. unit ≤ units) left → All (λ unit. unit ≤ units') wave
  wave_known {units} units_same same is once known =
      rw (units_same, is)
      (all_of_wanted (λ unit. unit ≤ units) items (taken free [] items)
      (taken_as_left free [] items (ap has_repeat same ∙ once)) (rw same known))

-- ---- the units of a wave come back

pub record IsReturning (ahead out : List ℕ) : Type 0 where
  pub differ : has_repeat ahead ≡ false
  pub out_now : (unit : ℕ) → among out unit ≡ among ahead unit

pub one_returned : {now later out out' : List ℕ} (unit : ℕ) → now ≡ unit ∷ later → out' ≡ without_unit unit out
    → IsReturning now out → IsReturning later out'
one_returned {now} {later} {out} unit next went was =
    let once : has_repeat (unit ∷ later) ≡ false = ap has_repeat (sym next) ∙ was.differ in
    let parts = or_parts (among later unit) (has_repeat later) once in
    rw went (record {
      differ = parts.1;
      out_now = λ other. among-without_unit unit out other
          ∙ ap (λ b. b && not (other == unit)) (was.out_now other ∙ ap (λ l. among l other) next)
          ∙ without (unit == other) (other == unit) (among later other) (mirrored unit other)
          (λ same. rw (← eqb-true unit other same) parts.0);
    })
  where
    mirrored : (a b : ℕ) → (a == b) ≡ (b == a)
    mirrored a b = elim (cases_Bool (a == b)) [
      | inl same ↦ same ∙ sym (eq-eqb b a (sym (eqb-true a b same)))
      | inr other ↦ other ∙ sym (false_from_ne_true (b == a)
          (λ same. cc (other, eq-eqb a b (sym (eqb-true b a same)))))
    ]

    without : (here turned more : Bool) → here ≡ turned → (here ≡ true → more ≡ false)
        → ((here || more) && not turned) ≡ more
    without true true more is none = sym (none refl)
    without true false more is none = absurd cc
    without false true more is none = absurd cc
    without false false true is none = refl
    without false false false is none = refl

pub out_yet : {now later out : List ℕ} (unit : ℕ) → now ≡ unit ∷ later → IsReturning now out
    → among out unit ≡ true
out_yet {later} unit next was = was.out_now unit ∙ ap (λ l. among l unit) next ∙ itself unit later

-- ---- waves, until no unit is left

pub some_left : {is_none : Bool} (left : ℕ) → is_none ≡ (left == 0) → is_none ≡ false → 0 < left
some_left left told is = grind (arith, nat_tests)

pub none_more : {is_none : Bool} (left : ℕ) → is_none ≡ (left == 0) → is_none ≡ true → left ≡ 0
none_more left told is = eqb-true left 0 (sym told ∙ is)

-- Waves of some units, of which others are left: with first-fit waves of these behind them they are first-fit waves of
-- all.
pub record AreBegun (units : ℕ) (cuts : List (List ℕ)) (margin : ℕ) (wanted left : List ℕ)
    (waves : List (List ℕ)) : Type 0 where
  pub known : All (λ unit. unit ≤ units) left
  pub differ : has_repeat left ≡ false
  pub alone : AreFreeAlone cuts margin left
  pub goes_on : (more : List (List ℕ)) → AreFirstFit cuts margin left more
      → AreFirstFit cuts margin wanted (waves ++ more)

module _ {units : ℕ} {cuts : List (List ℕ)} {margin : ℕ} {wanted : List ℕ} where
  pub waves_begin : {left : List ℕ} {waves : List (List ℕ)} → All (λ unit. unit ≤ units) wanted
      → has_repeat wanted ≡ false → AreFreeAlone cuts margin wanted → left ≡ wanted → waves ≡ []
      → AreBegun units cuts margin wanted left waves
  waves_begin known once alone same none = rw (same, none) (record {
    known = known;
    differ = once;
    alone = alone;
    goes_on = λ more fit. fit;
  })

  one_wave : (left : List ℕ) {waves : List (List ℕ)} → 0 < length left
      → AreBegun units cuts margin wanted left waves
      → AreBegun units cuts margin wanted (passed (is_free cuts margin) [] left)
      (waves ++ taken (is_free cuts margin) [] left ∷ [])
  one_wave [] some was = absurd (omega arith)
  one_wave (first ∷ others) {waves} some was =
      let left : List ℕ = first ∷ others in
      let rest : List ℕ = passed (is_free cuts margin) [] left in
      let wave : List ℕ = taken (is_free cuts margin) [] left in
      let is = passed_as_left (is_free cuts margin) [] left was.differ in
      record {
        known = all_of_wanted (λ unit. unit ≤ units) left rest is was.known;
        differ = once_of_wanted left rest is was.differ;
        alone = all_of_wanted (λ unit. IsFree cuts margin (unit ∷ [])) left rest is was.alone;
        goes_on = λ more fit. subst (AreFirstFit cuts margin wanted) (sym (append_assoc waves (wave ∷ []) more))
            (was.goes_on (wave ∷ more) (one_more cuts margin first others was.differ
            (All-head (λ unit. IsFree cuts margin (unit ∷ [])) first others was.alone) fit));
      }

  pub waves_go_on : {left left' : List ℕ} {waves waves' : List (List ℕ)} (now : List (List ℕ)) → now ≡ cuts
      → 0 < length left → left' ≡ passed (is_free now margin) [] left
      → waves' ≡ waves ++ taken (is_free now margin) [] left ∷ [] → AreBegun units cuts margin wanted left waves
      → AreBegun units cuts margin wanted left' waves'
  waves_go_on {left} now same some is_left are was = rw (is_left, are, same) (one_wave left some was)

  -- where a unit is left, no cut set is tight while nothing is out
  pub free_at_first : (left : List ℕ) {waves : List (List ℕ)} (now : List (List ℕ)) → now ≡ cuts → 0 < length left
      → AreBegun units cuts margin wanted left waves → is_free now margin [] ≡ true
  free_at_first [] now same some was = absurd (omega arith)
  free_at_first (first ∷ others) now same some was =
      ap (λ cs. is_free cs margin []) same
      ∙ passes_fewer cuts margin [] (first ∷ []) (λ unit has. absurd cc) (test_by_free cuts margin (first ∷ [])
      (All-head (λ unit. IsFree cuts margin (unit ∷ [])) first others was.alone))

  pub fewer_each_time : (left : List ℕ) {left' : List ℕ} {waves : List (List ℕ)} (now : List (List ℕ)) → now ≡ cuts
      → 0 < length left → left' ≡ passed (is_free now margin) [] left
      → AreBegun units cuts margin wanted left waves → length left' < length left
  fewer_each_time [] now same some is was = absurd (omega arith)
  fewer_each_time (first ∷ others) now same some is was =
      subst (λ l. length l < length (first ∷ others))
      (sym (is ∙ ap (λ cs. passed (is_free cs margin) [] (first ∷ others)) same))
      (fewer_left (is_free cuts margin) first others [] (test_by_free cuts margin (first ∷ [])
      (All-head (λ unit. IsFree cuts margin (unit ∷ [])) first others was.alone)))

  pub waves_end : {left : List ℕ} {waves : List (List ℕ)} → length left ≡ 0
      → AreBegun units cuts margin wanted left waves → AreFirstFit cuts margin wanted waves
  waves_end {left} {waves} none was =
      subst (AreFirstFit cuts margin wanted) (append-nil waves)
      (was.goes_on [] (rw (nil_from_length left none) (no_waves cuts margin)))

-- ---- a ledger in which units go out and come back

pub same_but_out : (first : LedgerView) {was now : LedgerView} {out : List ℕ} → was ≡ record first { out = was.out }
    → now ≡ record was { out = out } → now ≡ record first { out = now.out }
same_but_out first {was} {now} {out} before after =
    after ∙ ap (λ (v : LedgerView). record v { out = out }) before
    ∙ ap (λ o. record first { out = o }) (sym (ap (λ (v : LedgerView). v.out) after))

-- ---- units that may be out alone

nothing_first : (numbers : List ℕ) → slice_get numbers 0 ≡ None → numbers ≡ []
nothing_first [] none = refl
nothing_first (number ∷ numbers) none = absurd cc

module _ (cuts : List (List ℕ)) (margin : ℕ) (wanted : List ℕ) (i : ℕ) {unit : ℕ} (short : i < length wanted)
    (at : unit ≡ get_or wanted i unit) where
  pub alone_more : {out : List ℕ} → out ≡ [] → slice_get (tight (unit ∷ out) margin cuts) 0 ≡ None
      → AreFreeAlone cuts margin (take i wanted) → AreFreeAlone cuts margin (take (i + 1) wanted)
  alone_more {out} none_out none before =
      All-more (λ u. IsFree cuts margin (u ∷ [])) wanted i unit short before
      (subst (λ (u : ℕ). IsFree cuts margin (u ∷ [])) at
      (subst (λ (o : List ℕ). IsFree cuts margin (unit ∷ o)) none_out
      (nothing_first (tight (unit ∷ out) margin cuts) none)))

  pub stuck_at : {out : List ℕ} {cut : ℕ} → AreFreeAlone cuts margin (take i wanted) → out ≡ []
      → slice_get (tight (unit ∷ out) margin cuts) 0 ≡ Some cut
      → IsFirstStuck cuts margin wanted (record { unit = unit; cut = cut })
  stuck_at {out} {cut} before none_out first = record {
    before = take i wanted;
    behind = drop (i + 1) wanted;
    split = sym (take-append-drop i wanted) ∙ ap (λ l. take i wanted ++ l) (ahead wanted i short at);
    first = before;
    cut = ap (λ o. slice_get (tight (unit ∷ o) margin cuts) 0) (sym none_out) ∙ first;
  }
