-- How one wave is filled: what goes into it, what is passed over, and why.
use Rattle.std.specs.Prelude.{◌≡◌, ℕ, ◌+◌, ◌<◌, ◌≤◌, Bool, true, false, cond, ◌&&◌, ◌||◌, ◌==◌, List, [], ◌∷◌, ◌++◌}
use Rattle.std.specs.Prelude.{length, filter}
use Rattle.std.proofs.Common.{refl, sym, ◌∙◌, ap, arith, inl, inr, eqb-true}
use Rattle.std.proofs.lemmas.Bool.{cases_Bool, cond_both, false_from_ne_true, or_parts, or_right}
use Rattle.unit_sets.specs.UnitList.{among, with_unit}
use Rattle.unit_sets.proofs.UnitListLemmas.{among-filter, among-with_unit}
use Rattle.residual_ledger.proofs.RowLemmas.{among-append}
use Rattle.margin_policy.specs.Asked.{has_repeat}
use Rattle.wave_planner.specs.{Filling.taken, Filling.passed, Waves.IsAsWanted}
use Rattle.wave_planner.proofs.FreeLemmas.{AreAmong, PassesFewer}
use Rattle.wave_planner.proofs.KeptLemmas.{itself, wanted_first, wanted_later}

module _ (free : List ℕ → Bool) where
  -- ---- both parts have units that are left, in their order

  pub taken_as_left : (out units : List ℕ) → has_repeat units ≡ false → IsAsWanted units (taken free out units)
  taken_as_left out [] once = refl
  taken_as_left out (unit ∷ units) once =
      let parts = or_parts (among units unit) (has_repeat units) once in
      cond_both (free (unit ∷ out)) (unit ∷ taken free (with_unit unit out) units) (taken free out units)
      (IsAsWanted (unit ∷ units))
      (λ hit. wanted_first unit units (taken free (with_unit unit out) units) parts.0
      (taken_as_left (with_unit unit out) units parts.1))
      (λ miss. wanted_later unit units (taken free out units) parts.0 (taken_as_left out units parts.1))

  pub passed_as_left : (out units : List ℕ) → has_repeat units ≡ false → IsAsWanted units (passed free out units)
  passed_as_left out [] once = refl
  passed_as_left out (unit ∷ units) once =
      let parts = or_parts (among units unit) (has_repeat units) once in
      cond_both (free (unit ∷ out)) (passed free (with_unit unit out) units) (unit ∷ passed free out units)
      (IsAsWanted (unit ∷ units))
      (λ hit. wanted_later unit units (passed free (with_unit unit out) units) parts.0
      (passed_as_left (with_unit unit out) units parts.1))
      (λ miss. wanted_first unit units (passed free out units) parts.0 (passed_as_left out units parts.1))

  -- ---- each unit that is left is in one of the parts

  abbrev pub one_of : Bool → ℕ
  one_of has = cond has 1 0

  counted_taken : (here later t p : Bool) → (here ≡ true → later ≡ false) → one_of later ≡ one_of t + one_of p
      → one_of (here || later) ≡ one_of (here || t) + one_of p
  counted_taken true later t p none parts = let none' = none refl in let zero = rw none' at parts in omega arith
  counted_taken false later t p none parts = parts

  counted_passed : (here later t p : Bool) → (here ≡ true → later ≡ false) → one_of later ≡ one_of t + one_of p
      → one_of (here || later) ≡ one_of t + one_of (here || p)
  counted_passed true later t p none parts = let none' = none refl in let zero = rw none' at parts in omega arith
  counted_passed false later t p none parts = parts

  pub parted : (out units : List ℕ) → has_repeat units ≡ false → (unit : ℕ)
      → one_of (among units unit) ≡ one_of (among (taken free out units) unit)
      + one_of (among (passed free out units) unit)
  parted out [] once unit = refl
  parted out (first ∷ units) once unit =
      let parts = or_parts (among units first) (has_repeat units) once in
      let none : (first == unit) ≡ true → among units unit ≡ false =
      λ same. rw (← eqb-true first unit same) parts.0 in
      elim (cases_Bool (free (first ∷ out))) [
        | inl hit ↦ rw hit (counted_taken (first == unit) (among units unit)
            (among (taken free (with_unit first out) units) unit)
            (among (passed free (with_unit first out) units) unit) none
            (parted (with_unit first out) units parts.1 unit))
        | inr miss ↦ rw miss (counted_passed (first == unit) (among units unit) (among (taken free out units) unit)
            (among (passed free out units) unit) none (parted out units parts.1 unit))
      ]

  -- ---- the wave may be out as a whole

  in_turn : (f t o : Bool) → (f || (t || o)) ≡ true → (t || (f || o)) ≡ true
  in_turn true true o h = refl
  in_turn true false o h = refl
  in_turn false t o h = h

  pub taken_free : PassesFewer free → (out units : List ℕ) → free out ≡ true
      → free (taken free out units ++ out) ≡ true
  taken_free fewer out [] may = may
  taken_free fewer out (unit ∷ units) may =
      cond_both (free (unit ∷ out)) (unit ∷ taken free (with_unit unit out) units) (taken free out units)
      (λ wave. free (wave ++ out) ≡ true)
      (λ hit.
      let wave : List ℕ = taken free (with_unit unit out) units in
      fewer (unit ∷ (wave ++ out)) (wave ++ with_unit unit out)
      (λ other has.
      among-append wave (with_unit unit out) other
      ∙ ap (λ b. among wave other || b) (among-with_unit unit out other)
      ∙ in_turn (unit == other) (among wave other) (among out other)
      (ap (λ b. (unit == other) || b) (sym (among-append wave out other)) ∙ has))
      (taken_free fewer (with_unit unit out) units
      (fewer (with_unit unit out) (unit ∷ out) (λ other has. sym (among-with_unit unit out other) ∙ has) hit)))
      (λ miss. taken_free fewer out units may)

  -- ---- what is passed over may not be out beside those of the wave that stand before it

  abbrev before_of : List ℕ → List ℕ → List ℕ
  before_of wave before = filter (among wave) before

  through_taken : (u f b t o : Bool) → (u || ((b && t) || (f || o))) ≡ true
      → (u || (((f || b) && (f || t)) || o)) ≡ true
  through_taken true f b t o h = refl
  through_taken false true b t o h = refl
  through_taken false false b t o h = h

  through_passed : (u f b t o : Bool) → (u || ((b && t) || o)) ≡ true → (u || (((f || b) && t) || o)) ≡ true
  through_passed true f b t o h = refl
  through_passed false true true t o h = h
  through_passed false true false t o h = or_right t o h
  through_passed false false b t o h = h

  -- the members of a unit, of those of a wave before it, and of those that are out
  beside : (unit : ℕ) (wave before out : List ℕ) (other : ℕ)
      → among (unit ∷ (before_of wave before ++ out)) other
      ≡ ((unit == other) || ((among before other && among wave other) || among out other))
  beside unit wave before out other =
      ap (λ b. (unit == other) || b) (among-append (before_of wave before) out other
      ∙ ap (λ b. b || among out other) (among-filter (among wave) before other))

  pub kept_out : PassesFewer free → (before behind : List ℕ) (unit : ℕ) (out : List ℕ)
      → among (taken free out (before ++ unit ∷ behind)) unit ≡ false
      → free (unit ∷ (before_of (taken free out (before ++ unit ∷ behind)) before ++ out)) ≡ false
  kept_out fewer [] behind unit out none = elim (cases_Bool (free (unit ∷ out))) [
    | inl hit ↦ absurd (cc (itself unit (taken free (with_unit unit out) behind), rw hit at none))
    | inr miss ↦ miss
  ]
  kept_out fewer (first ∷ before) behind unit out none = elim (cases_Bool (free (first ∷ out))) [
    | inl hit ↦ where_taken (kept_out fewer before behind unit (with_unit first out)) (taken free out (first ∷ left))
        (ap (λ b. cond b (first ∷ taken free (with_unit first out) left) (taken free out left)) hit) none
    | inr miss ↦ where_passed (kept_out fewer before behind unit out) (taken free out (first ∷ left))
        (ap (λ b. cond b (first ∷ taken free (with_unit first out) left) (taken free out left)) miss) none
  ]
    where
      left : List ℕ
      left = before ++ unit ∷ behind

      not_all : (all few : List ℕ) → AreAmong few all → free few ≡ false → free all ≡ false
      not_all all few among_all miss = false_from_ne_true (free all) (λ may. cc (miss, fewer few all among_all may))

      Earlier : List ℕ → Type 0
      Earlier now = among (taken free now left) unit ≡ false
          → free (unit ∷ (before_of (taken free now left) before ++ now)) ≡ false

      where_taken : Earlier (with_unit first out) → (wave : List ℕ)
          → wave ≡ first ∷ taken free (with_unit first out) left → among wave unit ≡ false
          → free (unit ∷ (before_of wave (first ∷ before) ++ out)) ≡ false
      where_taken earlier wave is none =
          let later : List ℕ = taken free (with_unit first out) left in
          let apart = (or_parts (first == unit) (among later unit) (sym (ap (λ w. among w unit) is) ∙ none)).1 in
          not_all (unit ∷ (before_of wave (first ∷ before) ++ out))
          (unit ∷ (before_of later before ++ with_unit first out))
          (λ other has.
          beside unit wave (first ∷ before) out other
          ∙ ap (λ w. (unit == other) || ((((first == other) || among before other) && among w other)
          || among out other)) is
          ∙ through_taken (unit == other) (first == other) (among before other) (among later other) (among out other)
          (sym (beside unit later before (with_unit first out) other
          ∙ ap (λ b. (unit == other) || ((among before other && among later other) || b))
          (among-with_unit first out other)) ∙ has))
          (earlier apart)

      where_passed : Earlier out → (wave : List ℕ) → wave ≡ taken free out left → among wave unit ≡ false
          → free (unit ∷ (before_of wave (first ∷ before) ++ out)) ≡ false
      where_passed earlier wave is none =
          let later : List ℕ = taken free out left in
          not_all (unit ∷ (before_of wave (first ∷ before) ++ out)) (unit ∷ (before_of later before ++ out))
          (λ other has.
          beside unit wave (first ∷ before) out other
          ∙ ap (λ w. (unit == other) || ((((first == other) || among before other) && among w other)
          || among out other)) is
          ∙ through_passed (unit == other) (first == other) (among before other) (among later other) (among out other)
          (sym (beside unit later before out other) ∙ has))
          (earlier (sym (ap (λ w. among w unit) is) ∙ none))

  -- ---- how many

  passed_few : (out units : List ℕ) → length (passed free out units) ≤ length units
  passed_few out [] = omega arith
  passed_few out (unit ∷ units) =
      let first = passed_few (with_unit unit out) units in
      let later = passed_few out units in
      cond_both (free (unit ∷ out)) (passed free (with_unit unit out) units) (unit ∷ passed free out units)
      (λ rest. length rest ≤ length (unit ∷ units)) (λ hit. omega arith) (λ miss. omega arith)

  -- where the first unit that is left may be out, it is in the wave
  pub some_taken : (unit : ℕ) (units out : List ℕ) → free (unit ∷ out) ≡ true
      → 0 < length (taken free out (unit ∷ units))
  some_taken unit units out hit = rw hit (omega arith)

  pub fewer_left : (unit : ℕ) (units out : List ℕ) → free (unit ∷ out) ≡ true
      → length (passed free out (unit ∷ units)) < length (unit ∷ units)
  fewer_left unit units out hit = let few = passed_few (with_unit unit out) units in rw hit (omega arith)
