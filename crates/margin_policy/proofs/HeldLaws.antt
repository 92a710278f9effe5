-- Which units are out, by who holds what.
use Rattle.std.specs.Prelude.{◌≡◌, ℕ, ◌<◌, Bool, true, false, ◌&&◌, ◌||◌, ◌==◌, List, [], ◌∷◌, length, Some, None}
use Rattle.std.specs.Prelude.{◌⊎◌, Option, is_some, slice_set}
use Rattle.std.proofs.Common.{refl, sym, ◌∙◌, ap, arith, inl, inr, eq-eqb, length-set, get_or-set_same}
use Rattle.std.proofs.Common.{get_or-set_other}
use Rattle.std.proofs.lemmas.Bool.{cases_eq, cases_lt, lt-ltb, le-ltb, ne_eqb, or_left, or_right}
use Rattle.std.proofs.lemmas.List.{get_or_past, set_past}
use Rattle.unit_sets.specs.{UnitList.among, UnitList.IsRising, declared.request.CrewNo.CrewNo}
use Rattle.residual_ledger.proofs.Passing.{among-passing, IsRising-passing}
use Rattle.margin_policy.specs.Held.{Held, holder_of, units_out, with_held, with_all_held}

-- whether a unit is out
abbrev pub is_held : Held → ℕ → Bool
is_held held unit = is_some (holder_of held unit)

pub IsRising-units_out : (held : Held) → IsRising (units_out held)
IsRising-units_out held = IsRising-passing (is_held held) (length held)

pub among-units_out : (held : Held) (unit : ℕ) → among (units_out held) unit ≡ is_held held unit
among-units_out held unit =
    among-passing (is_held held) (length held) unit
    ∙ elim (cases_lt unit (length held)) [
      | inl short ↦ ap (λ b. b && is_held held unit) (lt-ltb unit (length held) short)
      | inr past ↦ ap (λ b. b && is_held held unit) (le-ltb unit (length held) past)
          ∙ ap is_some (sym (get_or_past held unit None past))
    ]

-- where the place of one unit is set, each unit has its holder as before, or the one that was set
pub as_before_or_set : (held : Held) (unit : ℕ) (holder : Option CrewNo) (other : ℕ)
    → (holder_of (slice_set held unit holder) other ≡ holder_of held other)
    ⊎ (holder_of (slice_set held unit holder) other ≡ holder)
as_before_or_set held unit holder other = elim (cases_eq other unit) [
  | inl same ↦ elim (cases_lt unit (length held)) [
    | inl inside ↦ inr (rw same (get_or-set_same held unit holder None inside))
    | inr past ↦ inl (rw (set_past held unit holder past))
  ]
  | inr apart ↦ inl (get_or-set_other held unit other holder None apart)
]

-- ---- a unit is taken, or some units are

pub is_held-with_held : (held : Held) (crew : CrewNo) (unit : ℕ) → unit < length held → (other : ℕ)
    → is_held (with_held crew unit held) other ≡ ((unit == other) || is_held held other)
is_held-with_held held crew unit short other = elim (cases_eq unit other) [
  | inl same ↦ rw (← same, get_or-set_same held unit (Some crew) None short, eq-eqb unit unit refl)
  | inr apart ↦ rw (get_or-set_other held unit other (Some crew) None (λ e. apart (sym e)), ne_eqb unit other apart)
]

pub length-with_all_held : (crew : CrewNo) (units : List ℕ) (held : Held)
    → length (with_all_held crew units held) ≡ length held
length-with_all_held crew [] held = refl
length-with_all_held crew (unit ∷ units) held = length-with_all_held crew units (with_held crew unit held)
    ∙ length-set held unit (Some crew)

or_swapped : (a b c : Bool) → (a || (b || c)) ≡ ((b || a) || c)
or_swapped true true c = refl
or_swapped true false c = refl
or_swapped false true c = refl
or_swapped false false c = refl

pub is_held-with_all_held : (crew : CrewNo) (units : List ℕ) (held : Held)
    → ((unit : ℕ) → among units unit ≡ true → unit < length held) → (other : ℕ)
    → is_held (with_all_held crew units held) other ≡ (among units other || is_held held other)
is_held-with_all_held crew [] held known other = refl
is_held-with_all_held crew (unit ∷ units) held known other =
    is_held-with_all_held crew units (with_held crew unit held)
    (λ u has. omega (
      arith,
      length-set held unit (Some crew),
      known u (or_right (unit == u) (among units u) has),
    )) other
    ∙ ap (λ b. among units other || b) (is_held-with_held held crew unit
    (known unit (or_left (unit == unit) (among units unit) (eq-eqb unit unit refl))) other)
    ∙ or_swapped (among units other) (unit == other) (is_held held other)
