-- Lists over the numbers from one on.
use Rattle.std.proofs.Common.{◌≡◌, ℕ, zero, suc, ◌+◌, ◌<◌, ◌≤◌, Bool, true, List, [], ◌∷◌, ◌++◌, map, refl, sym, ap}
use Rattle.std.proofs.Common.{◌∙◌, arith}
use Rattle.std.specs.Prelude.{◌||◌, All}
use Rattle.std.specs.List.{flat_map, list_any, range_with_len}
use Rattle.std.proofs.{Math.Nat.suc-add, lemmas.Bool.cases_lt, lemmas.Bool.or_right, lemmas.List.Folds.list_any-append}
use Rattle.std.proofs.Common.{inl, inr}
use Rattle.std.proofs.lemmas.List.Elements.{All-nil, All-cons, All-append}

-- the numbers from one on, and then those behind them
pub range-append : (a n m : ℕ) → range_with_len a n ++ range_with_len (a + n) m ≡ range_with_len a (n + m)
range-append a zero m =
    let first : a + 0 ≡ a = omega arith in
    let count : 0 + m ≡ m = omega arith in
    ap (λ b. range_with_len b m) first ∙ ap (range_with_len a) (sym count)
range-append a (suc n) m =
    let next : a + suc n ≡ a + 1 + n = omega arith in
    ap (λ b. a ∷ (range_with_len (a + 1) n ++ range_with_len b m)) next
    ∙ ap (λ l. a ∷ l) (range-append (a + 1) n m)
    ∙ ap (range_with_len a) (sym (suc-add n m))

module _ {X : Type 0} where
  -- a function that gives each number the one that stands at its place
  pub map-counts : (f : ℕ → X) (g : ℕ → X) (s n : ℕ) → ((i : ℕ) → s ≤ i → i < s + n → f i ≡ g i)
      → map f (range_with_len s n) ≡ map g (range_with_len s n)
  map-counts f g s zero same = refl
  map-counts f g s (suc n) same =
      ap (λ x. x ∷ map f (range_with_len (s + 1) n)) (same s (omega arith) (omega arith))
      ∙ ap (λ l. g s ∷ l) (map-counts f g (s + 1) n (λ i low high. same i (omega arith) (omega arith)))

  -- each number has a property
  pub All-range : (P : X → Type 0) (f : ℕ → X) (s n : ℕ) → ((i : ℕ) → s ≤ i → i < s + n → P (f i))
      → All P (map f (range_with_len s n))
  All-range P f s zero each = All-nil P
  All-range P f s (suc n) each =
      All-cons P (f s) (map f (range_with_len (s + 1) n)) (each s (omega arith) (omega arith))
      (All-range P f (s + 1) n (λ i low high. each i (omega arith) (omega arith)))

  pub All-flat_range : (P : X → Type 0) (f : ℕ → List X) (s n : ℕ) → ((i : ℕ) → s ≤ i → i < s + n → All P (f i))
      → All P (flat_map f (range_with_len s n))
  All-flat_range P f s zero each = All-nil P
  All-flat_range P f s (suc n) each =
      All-append P (f s) (flat_map f (range_with_len (s + 1) n)) (each s (omega arith) (omega arith))
      (All-flat_range P f (s + 1) n (λ i low high. each i (omega arith) (omega arith)))

  -- nothing of any number
  pub flat_range-none : (f : ℕ → List X) (s n : ℕ) → ((i : ℕ) → f i ≡ []) → flat_map f (range_with_len s n) ≡ []
  flat_range-none f s zero none = refl
  flat_range-none f s (suc n) none = ap (λ l. l ++ flat_map f (range_with_len (s + 1) n)) (none s)
      ∙ flat_range-none f (s + 1) n none

  -- what passes a test at one of the numbers
  pub any-range : (test : X → Bool) (f : ℕ → X) (s n i : ℕ) → s ≤ i → i < s + n → test (f i) ≡ true
      → list_any test (map f (range_with_len s n)) ≡ true
  any-range test f s zero i low high passes = absurd (omega arith)
  any-range test f s (suc n) i low high passes = elim (cases_lt s i) [
    | inl later ↦ or_right (test (f s)) (list_any test (map f (range_with_len (s + 1) n)))
        (any-range test f (s + 1) n i (omega arith) (omega arith) passes)
    | inr here ↦
        let same : i ≡ s = omega arith in
        ap (λ b. b || list_any test (map f (range_with_len (s + 1) n))) (ap (λ j. test (f j)) (sym same) ∙ passes)
  ]

  pub any-flat_range : (test : X → Bool) (f : ℕ → List X) (s n i : ℕ) → s ≤ i → i < s + n → list_any test (f i) ≡ true
      → list_any test (flat_map f (range_with_len s n)) ≡ true
  any-flat_range test f s zero i low high passes = absurd (omega arith)
  any-flat_range test f s (suc n) i low high passes =
      list_any-append test (f s) (flat_map f (range_with_len (s + 1) n))
      ∙ elim (cases_lt s i) [
        | inl later ↦ or_right (list_any test (f s)) (list_any test (flat_map f (range_with_len (s + 1) n)))
            (any-flat_range test f (s + 1) n i (omega arith) (omega arith) passes)
        | inr here ↦
            let same : i ≡ s = omega arith in
            ap (λ b. b || list_any test (flat_map f (range_with_len (s + 1) n)))
            (ap (λ j. list_any test (f j)) (sym same) ∙ passes)
      ]
