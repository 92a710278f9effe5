-- The marks of a node's units, and those that each of its sets has.
use Rattle.std.proofs.Common.{◌≡◌, ◌⊎◌, ℕ, ◌^◌, bit_and, bit_or, ◌∙◌, ap, inl, inr}
use Rattle.std.proofs.Common.{arith}
use Rattle.std.specs.Int.{bit_at}
use Rattle.std.proofs.lemmas.Bool.{cases_eq}
use Rattle.std.proofs.lemmas.Nat.Bits.{bit_at-lt, bit_at-pow_other, bit_at-pow_same, bit_at_and, bit_at_or}

-- the marks of both parts, and one more
module _ (lo hi : ℕ) {own : ℕ} (mark : ℕ) (only : own ≡ 2 ^ mark) where
  pub own_marked : bit_at (bit_or (bit_or lo hi) own) mark ≡ 1
  own_marked =
      let same : bit_at own mark ≡ 1 = ap (λ w. bit_at w mark) only ∙ bit_at-pow_same mark in
      omega (arith, same, bit_at_or (bit_or lo hi) own mark, bit_at-lt (bit_or lo hi) mark)

  pub lo_marked : (i : ℕ) → bit_at lo i ≡ 1 → bit_at (bit_or (bit_or lo hi) own) i ≡ 1
  lo_marked i there =
      omega (arith, there, bit_at_or (bit_or lo hi) own i, bit_at_or lo hi i, bit_at-lt hi i, bit_at-lt own i)

  pub hi_marked : (i : ℕ) → bit_at hi i ≡ 1 → bit_at (bit_or (bit_or lo hi) own) i ≡ 1
  hi_marked i there =
      omega (arith, there, bit_at_or (bit_or lo hi) own i, bit_at_or lo hi i, bit_at-lt lo i, bit_at-lt own i)

  pub shared_by_lo : (i : ℕ) → bit_at (bit_and lo (bit_or hi own)) i ≡ 1 → bit_at lo i ≡ 1
  shared_by_lo i there = omega (arith, there, bit_at_and lo (bit_or hi own) i, bit_at-lt lo i)

  pub shared_by_hi : (i : ℕ) → bit_at (bit_and lo (bit_or hi own)) i ≡ 1 → (i ≡ mark) ⊎ (bit_at hi i ≡ 1)
  shared_by_hi i there =
      elim (cases_eq i mark) [
        | inl same ↦ inl same
        | inr other ↦
            let none : bit_at own i ≡ 0 = ap (λ w. bit_at w i) only ∙ bit_at-pow_other mark i other in
            inr (omega (arith, there, none, bit_at_and lo (bit_or hi own) i, bit_at_or hi own i, bit_at-lt hi i))
      ]
