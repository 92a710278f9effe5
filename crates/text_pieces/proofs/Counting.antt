-- Lines of so many numbers, from a number on.
use Rattle.std.specs.Prelude.{◌≡◌, ℕ, suc, ◌+◌, ◌-◌, ◌<◌, ◌≤◌, List, [], ◌++◌}
use Rattle.std.specs.List.{flat_map, range_with_len}
use Rattle.std.proofs.Common.{sym, ap, ◌∙◌, arith}

module _ (line : ℕ → List ℕ) (start count : ℕ) where
  pub all_numbers : flat_map line (range_with_len start count) ≡ flat_map line (range_with_len (start + 0) (count - 0))
  all_numbers =
      let from : start ≡ start + 0 = omega arith in
      let all : count ≡ count - 0 = omega arith in
      ap (λ n. flat_map line (range_with_len n count)) from ∙ ap (λ n. flat_map line (range_with_len (start + 0) n)) all

  pub no_number : (i : ℕ) → count ≤ i → flat_map line (range_with_len (start + i) (count - i)) ≡ []
  no_number i all = let none : count - i ≡ 0 = omega (arith, all) in
      ap (λ n. flat_map line (range_with_len (start + i) n)) none

  pub next_number : (i : ℕ) {number : ℕ} → i < count → number ≡ start + i
      → flat_map line (range_with_len (start + i) (count - i)) ≡ line number
      ++ flat_map line (range_with_len (start + (i + 1)) (count - (i + 1)))
  next_number i short is =
      let more : count - i ≡ suc (count - (i + 1)) = omega (arith, short) in
      let later : start + i + 1 ≡ start + (i + 1) = omega arith in
      ap (λ n. flat_map line (range_with_len (start + i) n)) more
      ∙ ap (λ n. line (start + i) ++ flat_map line (range_with_len n (count - (i + 1)))) later
      ∙ ap (λ n. line n ++ flat_map line (range_with_len (start + (i + 1)) (count - (i + 1)))) (sym is)
