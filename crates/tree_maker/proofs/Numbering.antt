-- Names that a rule counts one after another differ, and have the numbers that the rule gives them.
use Rattle.std.proofs.Common.{◌≡◌, ℕ, zero, suc, ◌+◌, ◌<◌, Bool, true, false, not, cond, ltb, List, [], ◌∷◌, ◌++◌, map}
use Rattle.std.proofs.Common.{refl, sym, ap, ◌∙◌, inl, inr, arith}
use Rattle.std.specs.Prelude.{◌||◌, All}
use Rattle.std.specs.List.{list_any, position_or_len, range_with_len}
use Rattle.std.proofs.lemmas.Bool.{cases_Bool, cond-true, lt-ltb}
use Rattle.std.proofs.lemmas.List.Elements.{All-append, All-cons, All-nil, All-head, All-tail, All-weaker}
use lib.Pointwise.{bytes_decides}
use Rattle.fault_words.specs.Names.{has_name, same_name, number_at, number_in}
use Rattle.tree_check.specs.Classes.{repeats_after}
use Rattle.std.specs.Prelude.{length, Some, None}
use Rattle.tree_maker.proofs.Statements.{placed}

-- the parts of a list that counts on
head_counts : {x s : ℕ} {xs : List ℕ} (n : ℕ) → x ∷ xs ≡ range_with_len s n → x ≡ s
head_counts zero is = absurd cc
head_counts (suc n) is = cc

tail_counts : {x : ℕ} (s : ℕ) {xs : List ℕ} (n : ℕ) → x ∷ xs ≡ range_with_len s (suc n) → xs ≡ range_with_len (s + 1) n
tail_counts s n is = cc

some_counts : {P : Type 0} {x : ℕ} (s : ℕ) {xs : List ℕ} → x ∷ xs ≡ range_with_len s zero → P
some_counts s is = absurd cc

module _ (rule : List ℕ → ℕ) where
  -- the first place of a name among names that are counted on
  place_counted : (names : List (List ℕ)) (s n : ℕ) (name : List ℕ) → map rule names ≡ range_with_len s n
      → has_name names name ≡ true
      → s + position_or_len (same_name name) names ≡ rule name
  place_counted [] s n name counted found = absurd cc
  place_counted (first ∷ names) s zero name counted found = some_counts s counted
  place_counted (first ∷ names) s (suc n) name counted found = elim (cases_Bool (same_name name first)) [
    | inl here ↦
        let is : position_or_len (same_name name) (first ∷ names) ≡ 0 =
        ap (λ b. cond (not b) (1 + position_or_len (same_name name) names) 0) here in
        let same : rule name ≡ rule first = ap rule ((bytes_decides name first).0 here) in
        let at : rule first ≡ s = head_counts (suc n) counted in
        omega arith
    | inr later ↦
        let is : position_or_len (same_name name) (first ∷ names) ≡ 1 + position_or_len (same_name name) names =
        ap (λ b. cond (not b) (1 + position_or_len (same_name name) names) 0) later in
        let ih : s + 1 + position_or_len (same_name name) names ≡ rule name =
        place_counted names (s + 1) n name (tail_counts s n counted)
        (sym (ap (λ b. b || has_name names name) later) ∙ found) in
        omega arith
  ]

  below_length : {X : Type 0} (p : X → Bool) (xs : List X) → list_any p xs ≡ true → position_or_len p xs < length xs
  below_length p [] found = absurd cc
  below_length p (x ∷ xs) found = elim (cases_Bool (p x)) [
    | inl here ↦
        let is : position_or_len p (x ∷ xs) ≡ 0 = ap (λ b. cond (not b) (1 + position_or_len p xs) 0) here in
        omega arith
    | inr later ↦
        let is : position_or_len p (x ∷ xs) ≡ 1 + position_or_len p xs =
        ap (λ b. cond (not b) (1 + position_or_len p xs) 0) later in
        let rest : list_any p xs ≡ true = sym (ap (λ b. b || list_any p xs) later) ∙ found in
        omega (arith, below_length p xs rest)
  ]

  -- the number of a name
  pub number_counted : (names : List (List ℕ)) (n : ℕ) (name : List ℕ) → map rule names ≡ range_with_len 1 n
      → has_name names name ≡ true → number_in names name ≡ rule name
  number_counted names n name counted found =
      ap number_at
      (cond-true (ltb (position_or_len (same_name name) names) (length names))
      (Some (position_or_len (same_name name) names)) None
      (lt-ltb (position_or_len (same_name name) names) (length names) (below_length (same_name name) names found)))
      ∙ (let at = place_counted names 1 n name counted found in omega arith)

  -- a name that none of the earlier ones is counted as
  new_name : (earlier : List (List ℕ)) (name : List ℕ) {s : ℕ} → rule name ≡ s → All (λ other. rule other < s) earlier
      → has_name earlier name ≡ false
  new_name [] name is below = refl
  new_name (other ∷ earlier) name {s} is below = elim (cases_Bool (same_name name other)) [
    | inl here ↦
        let same : rule name ≡ rule other = ap rule ((bytes_decides name other).0 here) in
        let low : rule other < s = All-head (λ o. rule o < s) other earlier below in
        absurd (omega arith)
    | inr differs ↦
        ap (λ b. b || has_name earlier name) differs
        ∙ new_name earlier name is (All-tail (λ o. rule o < s) other earlier below)
  ]

  -- names that are counted on are each defined once
  pub none_repeated : (earlier names : List (List ℕ)) (s n : ℕ) → map rule names ≡ range_with_len s n
      → All (λ other. rule other < s) earlier → repeats_after earlier (map placed names) ≡ []
  none_repeated earlier [] s n counted below = refl
  none_repeated earlier (name ∷ names) s zero counted below = some_counts s counted
  none_repeated earlier (name ∷ names) s (suc n) counted below =
      let at : rule name ≡ s = head_counts (suc n) counted in
      ap (λ b. cond b ((placed name).place ∷ []) [] ++ repeats_after (earlier ++ name ∷ []) (map placed names))
      (new_name earlier name at below)
      ∙ none_repeated (earlier ++ name ∷ []) names (s + 1) n (tail_counts s n counted)
      (All-append (λ other. rule other < s + 1) earlier (name ∷ [])
      (All-weaker (λ other. rule other < s) (λ other. rule other < s + 1) (λ other low. omega arith) earlier below)
      (All-cons (λ other. rule other < s + 1) name [] (omega arith) (All-nil (λ other. rule other < s + 1))))
