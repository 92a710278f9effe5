-- A name has a number exactly where it is among the names.
use Rattle.std.proofs.Common.{◌≡◌, ◌≢◌, ℕ, suc, ◌+◌, ◌<◌, ◌≤◌, Bool, true, false, not, cond, ltb, List, [], ◌∷◌, length}
use Rattle.std.proofs.Common.{map, refl, sym, ap, ◌∙◌, inl, inr, arith}
use Rattle.std.specs.Prelude.{◌||◌, position, Some, None}
use Rattle.std.specs.List.{list_any, position_or_len}
use Rattle.std.proofs.lemmas.Bool.{cases_Bool, cond-true, cond-false, lt-ltb, le-ltb}
use Rattle.galileo_tree.specs.declared.raw.Placed.{Placed}
use Rattle.fault_words.specs.Names.{same_name, has_name, number_at, number_in}
use Rattle.tree_check.specs.Classes.{undefined}

module _ {X : Type 0} (p : X → Bool) where
  pub position_below : (xs : List X) → list_any p xs ≡ true → position_or_len p xs < length xs
  position_below [] found = absurd cc
  position_below (x ∷ xs) found = elim (cases_Bool (p x)) [
    | inl here ↦
        let is : position_or_len p (x ∷ xs) ≡ 0 = ap (λ b. cond (not b) (1 + position_or_len p xs) 0) here in
        omega arith
    | inr later ↦
        let is : position_or_len p (x ∷ xs) ≡ 1 + position_or_len p xs =
        ap (λ b. cond (not b) (1 + position_or_len p xs) 0) later in
        let rest : list_any p xs ≡ true = sym (ap (λ b. b || list_any p xs) later) ∙ found in
        omega (arith, position_below xs rest)
  ]

  pub position_past : (xs : List X) → list_any p xs ≡ false → position_or_len p xs ≡ length xs
  position_past [] none = refl
  position_past (x ∷ xs) none = elim (cases_Bool (p x)) [
    | inl here ↦
        let never : list_any p (x ∷ xs) ≡ true = ap (λ b. b || list_any p xs) here in
        absurd cc
    | inr later ↦
        let is : position_or_len p (x ∷ xs) ≡ 1 + position_or_len p xs =
        ap (λ b. cond (not b) (1 + position_or_len p xs) 0) later in
        let rest : list_any p xs ≡ false = sym (ap (λ b. b || list_any p xs) later) ∙ none in
        omega (arith, position_past xs rest)
  ]

  pub position-some : (xs : List X) → list_any p xs ≡ true → position p xs ≡ Some (position_or_len p xs)
  position-some xs found =
      cond-true (ltb (position_or_len p xs) (length xs)) (Some (position_or_len p xs)) None
      (lt-ltb (position_or_len p xs) (length xs) (position_below xs found))

  pub position-none : (xs : List X) → list_any p xs ≡ false → position p xs ≡ None
  position-none xs none =
      cond-false (ltb (position_or_len p xs) (length xs)) (Some (position_or_len p xs)) None
      (le-ltb (position_or_len p xs) (length xs) (omega (arith, position_past xs none)))

pub number_some : (names : List (List ℕ)) (name : List ℕ) → has_name names name ≡ true
    → number_in names name ≡ suc (position_or_len (same_name name) names)
number_some names name found = ap number_at (position-some (same_name name) names found)

pub number_none : (names : List (List ℕ)) (name : List ℕ) → has_name names name ≡ false → number_in names name ≡ 0
number_none names name none = ap number_at (position-none (same_name name) names none)

-- the numbers are those of nodes
pub number_within : (names : List (List ℕ)) (name : List ℕ) → has_name names name ≡ true
    → (1 ≤ number_in names name) × (number_in names name ≤ length names)
number_within names name found =
    let is = number_some names name found in
    (omega arith, omega (arith, position_below (same_name name) names found))

pub unknown : (names : List (List ℕ)) (used : Placed) → number_in names used.name ≡ 0
    → undefined names (used ∷ []) ≡ used.place ∷ []
unknown names used zero_number = elim (cases_Bool (has_name names used.name)) [
  | inl there ↦ absurd (omega (arith, number_within names used.name there))
  | inr none ↦ ap (λ b. map (λ (u : Placed). u.place) (cond (not b) (used ∷ []) [])) none
]

pub known : (names : List (List ℕ)) (used : Placed) → number_in names used.name ≢ 0 → undefined names (used ∷ []) ≡ []
known names used some_number = elim (cases_Bool (has_name names used.name)) [
  | inl there ↦ ap (λ b. map (λ (u : Placed). u.place) (cond (not b) (used ∷ []) [])) there
  | inr none ↦ absurd (some_number (number_none names used.name none))
]
