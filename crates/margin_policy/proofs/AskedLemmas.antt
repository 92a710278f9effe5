-- Units that stand once, and how an array takes them up.
use Rattle.std.proofs.Common.{◌≡◌, ℕ, zero, suc, ◌+◌, ◌-◌, ◌<◌, ◌≤◌, Bool, true, false, ◌==◌, List, [], ◌∷◌, ◌++◌}
use Rattle.std.proofs.Common.{length, take, drop, set, replicate, get_or, refl, sym, ◌∙◌, ap, arith, inl, inr, eq-eqb}
use Rattle.std.proofs.Common.{eqb-true, length-set, get_or-set_same, drop-drop, drop-set-lt}
use Rattle.std.proofs.lemmas.Bool.{or_parts, or_from, or_left, or_right, cases_Bool}
use Rattle.std.proofs.lemmas.List.{take_more, take_all, take-set, drop-replicate}
use Rattle.unit_sets.specs.UnitList.{among}
use Rattle.margin_policy.specs.Asked.{has_repeat, can_be_asked, asked_limit, HoldsAsked}

among-at : (xs : List ℕ) (i : ℕ) → i < length xs → among xs (get_or xs i 0) ≡ true
among-at [] i short = absurd (omega arith)
among-at (x ∷ xs) zero short = or_left (x == x) (among xs x) (eq-eqb x x refl)
among-at (x ∷ xs) (suc i) short = or_right (x == get_or xs i 0) (among xs (get_or xs i 0)) (among-at xs i (omega arith))

apart-at : (xs : List ℕ) (x i : ℕ) → among xs x ≡ false → i < length xs → (x == get_or xs i 0) ≡ false
apart-at xs x i none short = elim (cases_Bool (x == get_or xs i 0)) [
  | inl same ↦ absurd (cc (rw (← eqb-true x (get_or xs i 0) same) at (among-at xs i short)))
  | inr other ↦ other
]

-- a unit of a list without repeats doesn't stand before itself
pub once_at : (units : List ℕ) (i : ℕ) → has_repeat units ≡ false → i < length units
    → among (take i units) (get_or units i 0) ≡ false
once_at [] i once short = absurd (omega arith)
once_at (unit ∷ units) zero once short = refl
once_at (unit ∷ units) (suc i) once short =
    let parts : (among units unit ≡ false) × (has_repeat units ≡ false) =
    or_parts (among units unit) (has_repeat units) once in
    or_from (unit == get_or units i 0) (among (take i units) (get_or units i 0))
    (apart-at units unit i parts.0 (omega arith)) (once_at units i parts.1 (omega arith))

-- ---- an array is filled

-- the first places have the first units, and the rest the unit 1
pub record IsFillingPlaces (units places : List ℕ) (i : ℕ) : Type 0 where
  pub all : length places ≡ asked_limit
  pub front : take i places ≡ take i units
  pub rest : drop i places ≡ replicate (asked_limit - i) 1

pub filling-more : {units places : List ℕ} {i unit : ℕ} → i < length units → i < asked_limit → unit ≡ get_or units i 0
    → IsFillingPlaces units places i → IsFillingPlaces units (set places i unit) (i + 1)
filling-more {units} {places} {i} {unit} short inside at was =
    let there : i < length places = omega (arith, was.all) in
    let same_front : take i (set places i unit) ≡ take i places = take-set places i unit in
    record {
      all = length-set places i unit ∙ was.all;
      front =
          take_more (set places i unit) i 0 (omega (arith, length-set places i unit))
          ∙ ap (λ xs. xs ++ get_or (set places i unit) i 0 ∷ []) (same_front ∙ was.front)
          ∙ ap (λ (u : ℕ). take i units ++ u ∷ []) (get_or-set_same places i unit 0 there ∙ at)
          ∙ sym (take_more units i 0 short);
      rest =
          drop-set-lt (i + 1) places i unit (omega arith)
          ∙ sym (drop-drop 1 i places)
          ∙ ap (drop 1) was.rest
          ∙ drop-replicate 1 (asked_limit - i) 1
          ∙ ap (λ n. replicate n 1) (fewer i);
    }
  where
    fewer : (i : ℕ) → asked_limit - i - 1 ≡ asked_limit - (i + 1)
    fewer i = omega arith

-- all units stand in the array
pub filled : {units places : List ℕ} {count : ℕ} {unknown : Bool} → length units ≡ count → count ≤ asked_limit
    → can_be_asked units unknown ≡ true → IsFillingPlaces units places count → HoldsAsked places count unknown
filled {units} {count} {unknown} long few asked was = record {
  all = was.all;
  few = few;
  rest = was.rest;
  asked = ap (λ xs. can_be_asked xs unknown) (was.front ∙ take_all count units (omega arith)) ∙ asked;
}
