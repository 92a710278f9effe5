-- Which units are out when holders change.
use Rattle.std.proofs.Common.{◌≡◌, ℕ, zero, suc, ◌+◌, ◌<◌, false, not, ◌&&◌, ◌||◌, ◌==◌, List, [], ◌∷◌}
use Rattle.std.proofs.Common.{◌++◌, length, take, replicate, get_or, All, Option, Some, None, is_some, refl, sym}
use Rattle.std.proofs.Common.{◌∙◌, ap, arith, inl, inr, eq-eqb, get_or-set_same, get_or-set_other}
use Rattle.std.specs.List.Sorted.{IsStrictlySortedBy}
use Rattle.std.proofs.lemmas.Bool.{cases_eq, cases_lt, ne_eqb, or_parts}
use Rattle.std.proofs.lemmas.List.{get_or_past, get_or-replicate, length-replicate, take_more}
use Rattle.std.proofs.lemmas.List.{get_or_default}
use Rattle.std.proofs.Math.Bool.{and-false, and-true}
use Rattle.unit_sets.specs.UnitList.{among, IsRising, with_unit, without_unit}
use Rattle.unit_sets.proofs.UnitListLemmas.{same_set, IsRising-with_unit}
use Rattle.unit_sets.proofs.UnitListLemmas.{IsRising-without_unit, among-with_unit, among-without_unit}
use Rattle.unit_sets.specs.declared.request.CrewNo.{CrewNo}
use Rattle.margin_policy.specs.{Asked.has_repeat, Standing.nothing_held}
use Rattle.margin_policy.specs.Held.{Held, holder_of, units_out, with_held, with_all_held, without_held, or_else}
use Rattle.margin_policy.specs.Held.{first_holder}
use Rattle.margin_policy.proofs.HeldLaws.{is_held, IsRising-units_out, among-units_out, is_held-with_held}
use Rattle.margin_policy.proofs.AskedLemmas.{once_at}

-- ---- nothing is out

pub no_holder : (count unit : ℕ) → holder_of (replicate count None) unit ≡ None
no_holder count unit = elim (cases_lt unit count) [
  | inl short ↦ get_or-replicate count unit None None short
  | inr past ↦ get_or_past (replicate count None) unit None
      (omega (arith, past, length-replicate {A = Option CrewNo} count None))
]

none_rises : IsRising []
unfolding IsStrictlySortedBy
none_rises = tt

pub nothing_out : (units : ℕ) → units_out (nothing_held units) ≡ []
nothing_out units =
    same_set (units_out (nothing_held units)) [] (IsRising-units_out (nothing_held units)) none_rises
    (λ unit. among-units_out (nothing_held units) unit ∙ ap is_some (no_holder (units + 1) unit))

-- ---- a unit goes out, or comes back

pub taken : (held : Held) (crew : CrewNo) (unit : ℕ) → unit < length held
    → units_out (with_held crew unit held) ≡ with_unit unit (units_out held)
taken held crew unit short =
    same_set (units_out (with_held crew unit held)) (with_unit unit (units_out held))
    (IsRising-units_out (with_held crew unit held))
    (IsRising-with_unit unit (units_out held) (IsRising-units_out held))
    (λ other. among-units_out (with_held crew unit held) other ∙ is_held-with_held held crew unit short other
    ∙ sym (among-with_unit unit (units_out held) other
    ∙ ap (λ b. (unit == other) || b) (among-units_out held other)))

pub returned : (held : Held) (unit : ℕ) → unit < length held
    → units_out (without_held unit held) ≡ without_unit unit (units_out held)
returned held unit short =
    same_set (units_out (without_held unit held)) (without_unit unit (units_out held))
    (IsRising-units_out (without_held unit held))
    (IsRising-without_unit unit (units_out held) (IsRising-units_out held))
    (λ other. among-units_out (without_held unit held) other ∙ each other
    ∙ sym (among-without_unit unit (units_out held) other
    ∙ ap (λ b. b && not (other == unit)) (among-units_out held other)))
  where
    each : (other : ℕ) → is_held (without_held unit held) other ≡ (is_held held other && not (other == unit))
    each other = elim (cases_eq other unit) [
      | inl same ↦
          rw (same, get_or-set_same held unit None None short, eq-eqb unit unit refl)
          (sym (and-false (is_held held unit)))
      | inr apart ↦
          rw (get_or-set_other held unit other None None apart, ne_eqb other unit apart)
          (sym (and-true (is_held held other)))
    ]

-- ---- some units, one after another

both_none : (first later : Option CrewNo) → or_else first later ≡ None → (first ≡ None) × (later ≡ None)
both_none None later h = (refl, h)
both_none (Some holder) later h = absurd cc

pub first_holder-none : (held : Held) (units : List ℕ) → first_holder held units ≡ None → (i : ℕ) → i < length units
    → holder_of held (get_or units i 0) ≡ None
first_holder-none held [] none i short = absurd (omega arith)
first_holder-none held (unit ∷ units) none zero short =
    (both_none (holder_of held unit) (first_holder held units) none).0
first_holder-none held (unit ∷ units) none (suc i) short =
    first_holder-none held units (both_none (holder_of held unit) (first_holder held units) none).1 i (omega arith)

pub all_in_service : (held : Held) (units : List ℕ) → first_holder held units ≡ None
    → All (λ unit. among (units_out held) unit ≡ false) units
all_in_service held units none k d short =
    ap (among (units_out held)) (get_or_default units k d 0 short)
    ∙ among-units_out held (get_or units k 0)
    ∙ ap is_some (first_holder-none held units none k short)

with_all_held-append : (crew : CrewNo) (units more : List ℕ) (held : Held)
    → with_all_held crew (units ++ more) held ≡ with_all_held crew more (with_all_held crew units held)
with_all_held-append crew [] more held = refl
with_all_held-append crew (unit ∷ units) more held = with_all_held-append crew units more (with_held crew unit held)

pub with_all_held-more : (crew : CrewNo) (units : List ℕ) (held : Held) (i : ℕ) {unit : ℕ} → i < length units
    → unit ≡ get_or units i 0 → with_held crew unit (with_all_held crew (take i units) held)
    ≡ with_all_held crew (take (i + 1) units) held
with_all_held-more crew units held i {unit} short at =
    sym (ap (λ some. with_all_held crew some held)
    (take_more units i 0 short ∙ ap (λ (u : ℕ). take i units ++ u ∷ []) (sym at))
    ∙ with_all_held-append crew (take i units) (unit ∷ []) held)

-- a unit that isn't among those taken is held as before
held_as_before : (crew : CrewNo) (units : List ℕ) (held : Held) (unit : ℕ) → among units unit ≡ false
    → holder_of (with_all_held crew units held) unit ≡ holder_of held unit
held_as_before crew [] held unit none = refl
held_as_before crew (first ∷ units) held unit none =
    let parts : ((first == unit) ≡ false) × (among units unit ≡ false) =
    or_parts (first == unit) (among units unit) none in
    held_as_before crew units (with_held crew first held) unit parts.1
    ∙ get_or-set_other held first unit (Some crew) None (λ e. cc (eq-eqb first unit (sym e)))

-- the unit whose turn it is is still in service
pub still_free : (crew : CrewNo) (units : List ℕ) (held : Held) (i : ℕ) {unit : ℕ} → has_repeat units ≡ false
    → first_holder held units ≡ None → i < length units → unit ≡ get_or units i 0
    → holder_of (with_all_held crew (take i units) held) unit ≡ None
still_free crew units held i {unit} once none short at =
    held_as_before crew (take i units) held unit (ap (among (take i units)) at ∙ once_at units i once short)
    ∙ ap (holder_of held) at ∙ first_holder-none held units none i short
