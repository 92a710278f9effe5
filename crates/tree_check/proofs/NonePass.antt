-- What a class of faults that doesn't occur says of each item.
use Rattle.std.proofs.Common.{◌≡◌, ℕ, ◌≤◌, Bool, false, cond, List, [], ◌∷◌, ◌++◌, length, drop, map, refl, sym, ◌∙◌}
use Rattle.std.proofs.Common.{ap, inl, inr, arith, length-drop}
use Rattle.std.specs.{Prelude.All, Prelude.filter, List.flat_map}
use Rattle.std.proofs.{lemmas.Bool.cases_Bool, lemmas.List.length-map, lemmas.List.Elements.All-nil}
use Rattle.std.proofs.{lemmas.List.Elements.All-cons}
use Rattle.fault_words.specs.declared.place.Place.{Place}

pub both_none : (xs ys : List Place) → xs ++ ys ≡ [] → (xs ≡ []) × (ys ≡ [])
both_none [] ys none = (refl, none)
both_none (x ∷ xs) ys none = absurd cc

-- no item passes the test
pub none_pass : {X : Type 0} (place_of : X → Place) (test : X → Bool) (xs : List X) → map place_of (filter test xs) ≡ []
    → All (λ x. test x ≡ false) xs
none_pass place_of test [] none = All-nil (λ x. test x ≡ false)
none_pass place_of test (x ∷ xs) none = elim (cases_Bool (test x)) [
  | inl passes ↦
      let some : map place_of (filter test (x ∷ xs)) ≡ place_of x ∷ map place_of (filter test xs) =
      ap (λ b. map place_of (cond b (x ∷ filter test xs) (filter test xs))) passes in
      absurd cc
  | inr fails ↦
      let rest : map place_of (filter test (x ∷ xs)) ≡ map place_of (filter test xs) =
      ap (λ b. map place_of (cond b (x ∷ filter test xs) (filter test xs))) fails in
      All-cons (λ y. test y ≡ false) x xs fails (none_pass place_of test xs (sym rest ∙ none))
]

-- no item has a place
pub none_each : {X : Type 0} (places : X → List Place) (xs : List X) → flat_map places xs ≡ []
    → All (λ x. places x ≡ []) xs
none_each places [] none = All-nil (λ x. places x ≡ [])
none_each places (x ∷ xs) none =
    let parts = both_none (places x) (flat_map places xs) none in
    All-cons (λ y. places y ≡ []) x xs parts.0 (none_each places xs parts.1)

-- there are no more items than that
pub none_beyond : {X : Type 0} (place_of : X → Place) (n : ℕ) (xs : List X) → map place_of (drop n xs) ≡ []
    → length xs ≤ n
none_beyond place_of n xs none = omega (arith, ap length none, length-map (drop n xs) place_of, length-drop n xs)
