-- One item of a list stands in place of another: what is so of all items then, and what they come to in all.
use Rattle.std.proofs.Common.{◌≡◌, ◌≢◌, ℕ, zero, suc, ◌+◌, ◌<◌, ◌≤◌, List, [], ◌∷◌, ◌++◌, length, set, refl, sym, ap}
use Rattle.std.proofs.Common.{subst, arith, ⊎_elim}
use mathlib.Core.Option.{some, some-injective, some-ne-none}
use lib.ListN.{get_elem?}
use Rattle.atomic_table.proofs.Lists.{at_set}

module _ {X : Type 0} where
  -- a fact of the new item and of all others is one of all items then
  pub each_after : (P : ℕ → X → Type 0) (xs : List X) (at : ℕ) (y : X) → P at y
      → ((other : ℕ) (z : X) → other ≢ at → get_elem? xs other ≡ some z → P other z)
      → (other : ℕ) (z : X) → get_elem? (set xs at y) other ≡ some z → P other z
  each_after P xs at y new others other z is = ⊎_elim
      (λ (here : (other ≡ at) × (y ≡ z)). subst (λ (p : ℕ × X). P p.0 p.1) (λ i. (sym here.0 i, here.1 i)) new)
      (λ (there : (other ≢ at) × (get_elem? xs other ≡ some z)). others other z there.0 there.1)
      (at_set xs at other y z is)

  -- a place that is taken is inside
  pub inside_at : (xs : List X) (at : ℕ) (x : X) → get_elem? xs at ≡ some x → at < length xs
  inside_at [] at x is = absurd (some-ne-none x (sym is))
  inside_at (first ∷ xs) zero x is = omega arith
  inside_at (first ∷ xs) (suc at) x is = let e = inside_at xs at x is in omega arith

  -- where each item counts for something, and a list for what its items do in all
  module _ (count : X → ℕ) (all : List X → ℕ) (more : (x : X) (xs : List X) → all (x ∷ xs) ≡ count x + all xs) where
    first_is : (first x : X) → some first ≡ some x → count first ≡ count x
    first_is first x is = ap count (some-injective first x is)

    pub all-set : (xs : List X) (at : ℕ) (x y : X) → get_elem? xs at ≡ some x
        → all (set xs at y) + count x ≡ all xs + count y
    all-set [] at x y is = absurd (some-ne-none x (sym is))
    all-set (first ∷ xs) zero x y is = omega (arith, more first xs, more y xs, first_is first x is)
    all-set (first ∷ xs) (suc at) x y is =
        omega (arith, more first xs, more first (set xs at y), all-set xs at x y is)

    pub all-push : (xs : List X) (y : X) → all (xs ++ y ∷ []) ≡ all xs + count y
    all-push [] y = omega (arith, more y [])
    all-push (first ∷ xs) y = omega (arith, more first xs, more first (xs ++ y ∷ []), all-push xs y)

    pub all-one : (xs : List X) (at : ℕ) (x : X) → get_elem? xs at ≡ some x → count x ≤ all xs
    all-one [] at x is = absurd (some-ne-none x (sym is))
    all-one (first ∷ xs) zero x is = omega (arith, more first xs, first_is first x is)
    all-one (first ∷ xs) (suc at) x is = omega (arith, more first xs, all-one xs at x is)

    pub all-two : (xs : List X) (at other : ℕ) (x y : X) → at ≢ other → get_elem? xs at ≡ some x
        → get_elem? xs other ≡ some y → count x + count y ≤ all xs
    all-two [] at other x y apart is also = absurd (some-ne-none x (sym is))
    all-two (first ∷ xs) zero zero x y apart is also = absurd (apart refl)
    all-two (first ∷ xs) zero (suc other) x y apart is also =
        omega (arith, more first xs, first_is first x is, all-one xs other y also)
    all-two (first ∷ xs) (suc at) zero x y apart is also =
        omega (arith, more first xs, first_is first y also, all-one xs at x is)
    all-two (first ∷ xs) (suc at) (suc other) x y apart is also =
        omega (arith, more first xs, all-two xs at other x y (λ e. apart (ap suc e)) is also)
