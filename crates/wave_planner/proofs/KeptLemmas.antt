-- Lists without repeats, and lists that have some items of another in its order.
use Rattle.std.specs.Prelude.{◌≡◌, ℕ, Bool, true, false, ◌||◌, ◌==◌, List, [], ◌∷◌, length}
use Rattle.std.specs.Prelude.{filter, All}
use Rattle.std.proofs.Common.{refl, sym, ◌∙◌, ap, inl, inr, eq-eqb, eqb-true}
use Rattle.std.proofs.lemmas.Bool.{cases_Bool, cases_lt, and_parts, and_left, or_from, or_left, or_parts, or_right}
use Rattle.std.proofs.lemmas.Bool.{false_from_ne_true}
use Rattle.std.proofs.lemmas.List.{get_or_past}
use Rattle.std.proofs.lemmas.List.Elements.{All-contains, All-filter, All-same}
use Rattle.unit_sets.specs.UnitList.{among}
use Rattle.unit_sets.proofs.UnitListLemmas.{among-filter, Contains-from_among}
use Rattle.margin_policy.specs.Asked.{has_repeat}
use Rattle.wave_planner.specs.Waves.{IsAsWanted, wave_at}

-- ---- members

pub itself : (unit : ℕ) (units : List ℕ) → among (unit ∷ units) unit ≡ true
itself unit units = or_left (unit == unit) (among units unit) (eq-eqb unit unit refl)

pub behind : (first unit : ℕ) (units : List ℕ) → among units unit ≡ true → among (first ∷ units) unit ≡ true
behind first unit units has = or_right (first == unit) (among units unit) has

-- a unit that is not among others is none of them
pub apart : (units : List ℕ) (first unit : ℕ) → among units first ≡ false → among units unit ≡ true
    → (first == unit) ≡ false
apart units first unit none has =
    false_from_ne_true (first == unit) (λ same. cc (has, rw (eqb-true first unit same) at none))

pub nobody : (units : List ℕ) → ((unit : ℕ) → among units unit ≡ false) → units ≡ []
nobody [] none = refl
nobody (unit ∷ units) none = absurd (cc (itself unit units, none unit))

-- ---- what a filter keeps

-- two tests that agree on the items of a list keep the same
pub same_kept : (p q : ℕ → Bool) (xs : List ℕ) → ((x : ℕ) → among xs x ≡ true → p x ≡ q x)
    → filter p xs ≡ filter q xs
same_kept p q [] same = refl
same_kept p q (x ∷ xs) same =
    rw (same x (itself x xs), same_kept p q xs (λ y has. same y (behind x y xs has))) refl

-- of what one test keeps another that passes less keeps what it keeps of all
kept_twice : (p q : ℕ → Bool) (xs : List ℕ) → ((x : ℕ) → p x ≡ true → q x ≡ true)
    → filter p (filter q xs) ≡ filter p xs
kept_twice p q [] less = refl
kept_twice p q (x ∷ xs) less = elim (cases_Bool (q x)) [
  | inl hit ↦ rw (hit, kept_twice p q xs less) refl
  | inr miss ↦
      let out : p x ≡ false = false_from_ne_true (p x) (λ has. cc (miss, less x has)) in
      rw (miss, out) (kept_twice p q xs less)
]

pub once_kept : (p : ℕ → Bool) (xs : List ℕ) → has_repeat xs ≡ false → has_repeat (filter p xs) ≡ false
once_kept p [] once = refl
once_kept p (x ∷ xs) once =
    let parts = or_parts (among xs x) (has_repeat xs) once in
    let later = once_kept p xs parts.1 in
    elim (cases_Bool (p x)) [
      | inl hit ↦ rw hit (or_from (among (filter p xs) x) (has_repeat (filter p xs))
          (among-filter p xs x ∙ and_left (among xs x) (p x) parts.0) later)
      | inr miss ↦ rw miss later
    ]

-- ---- some of the wanted units, in the order wanted

pub of_wanted : (wanted part : List ℕ) → IsAsWanted wanted part → (unit : ℕ) → among part unit ≡ true
    → among wanted unit ≡ true
of_wanted wanted part is unit has =
    (and_parts (among wanted unit) (among part unit)
    (sym (ap (λ l. among l unit) is ∙ among-filter (among part) wanted unit) ∙ has)).0

pub none_of_wanted : (wanted part : List ℕ) → IsAsWanted wanted part → (unit : ℕ) → among wanted unit ≡ false
    → among part unit ≡ false
none_of_wanted wanted part is unit none =
    false_from_ne_true (among part unit) (λ has. cc (none, of_wanted wanted part is unit has))

pub once_of_wanted : (wanted part : List ℕ) → IsAsWanted wanted part → has_repeat wanted ≡ false
    → has_repeat part ≡ false
once_of_wanted wanted part is once = ap has_repeat is ∙ once_kept (among part) wanted once

pub all_of_wanted : (P : ℕ → Type 0) (wanted part : List ℕ) → IsAsWanted wanted part → All P wanted → All P part
all_of_wanted P wanted part is all =
    All-same P part (filter (among part) wanted) is (All-filter (among part) P wanted all)

pub wanted_through : (wanted left part : List ℕ) → IsAsWanted wanted left → IsAsWanted left part
    → IsAsWanted wanted part
wanted_through wanted left part outer inner =
    inner ∙ ap (filter (among part)) outer
    ∙ kept_twice (among part) (among left) wanted (of_wanted left part inner)

-- the first wanted unit in front of some of the others
pub wanted_first : (first : ℕ) (wanted part : List ℕ) → among wanted first ≡ false → IsAsWanted wanted part
    → IsAsWanted (first ∷ wanted) (first ∷ part)
wanted_first first wanted part none is =
    let same : filter (among (first ∷ part)) wanted ≡ part =
    same_kept (among (first ∷ part)) (among part) wanted
    (λ unit has. ap (λ b. b || among part unit) (apart wanted first unit none has)) ∙ sym is in
    rw (itself first part, same) refl

-- the first wanted unit left out
pub wanted_later : (first : ℕ) (wanted part : List ℕ) → among wanted first ≡ false → IsAsWanted wanted part
    → IsAsWanted (first ∷ wanted) part
wanted_later first wanted part none is = rw (none_of_wanted wanted part is first none) is

-- ---- waves

-- what holds of each wave holds of the wave of a unit
pub at_wave : (P : List ℕ → Type 0) (waves : List (List ℕ)) (place unit : ℕ) → All P waves
    → among (wave_at waves place) unit ≡ true → P (wave_at waves place)
at_wave P waves place unit all has = elim (cases_lt place (length waves)) [
  | inl short ↦ all place [] short
  | inr past ↦ absurd (cc (ap (λ l. among l unit) (get_or_past waves place [] past), has))
]

-- what holds of each item holds of a unit that is one
pub all_among : (P : ℕ → Type 0) (units : List ℕ) → All P units → (unit : ℕ) → among units unit ≡ true → P unit
all_among P units all unit has = All-contains P units unit all (Contains-from_among units unit has)
