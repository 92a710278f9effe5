-- What follows from the definitions of `specs/Residual`.
use Rattle.std.specs.Prelude.{◌≡◌, ℕ, ◌+◌, Bool, true, false, not, cond, List, [], ◌∷◌, length, filter}
use Rattle.std.proofs.Common.{refl, sym, ◌∙◌, ap, arith}
use Rattle.unit_sets.specs.UnitList.{among}
use Rattle.residual_ledger.specs.Residual.{residual}

-- ---- member by member

length-kept : (b : Bool) (x : ℕ) (xs : List ℕ) → length (cond b (x ∷ xs) xs) ≡ cond b 1 0 + length xs
length-kept true x xs = omega arith
length-kept false x xs = omega arith

pub length-filter-cons : (p : ℕ → Bool) (x : ℕ) (xs : List ℕ)
    → length (filter p (x ∷ xs)) ≡ cond (p x) 1 0 + length (filter p xs)
length-filter-cons p x xs = length-kept (p x) x (filter p xs)

pub residual-cons : (out : List ℕ) (x : ℕ) (xs : List ℕ)
    → residual out (x ∷ xs) ≡ cond (not (among out x)) 1 0 + residual out xs
residual-cons out x xs = length-filter-cons (λ member. not (among out member)) x xs

-- sets with the same members leave the same
pub residual-alike : (a b : List ℕ) → ((unit : ℕ) → among a unit ≡ among b unit) → (cut : List ℕ)
    → residual a cut ≡ residual b cut
residual-alike a b alike [] = refl
residual-alike a b alike (x ∷ xs) =
    residual-cons a x xs
    ∙ ap (λ o. cond (not o) 1 0 + residual a xs) (alike x)
    ∙ ap (λ n. cond (not (among b x)) 1 0 + n) (residual-alike a b alike xs)
    ∙ sym (residual-cons b x xs)
