-- Which cut sets keep too few members in service.
use Rattle.std.specs.Prelude.{ℕ, suc, Bool, nat_le, List, [], ◌∷◌, if◌then◌else◌}
use Rattle.residual_ledger.specs.Residual.{residual}

-- whether a cut set has at most this many members that are not out
abbrev pub is_tight : List ℕ → ℕ → List ℕ → Bool
is_tight out most cut = nat_le (residual out cut) most

-- the numbers of the lists that pass a test, in rising order, where the first one has the given number
abbrev pub numbers_from : ℕ → (List ℕ → Bool) → List (List ℕ) → List ℕ
numbers_from number test [] = []
numbers_from number test (cut ∷ cuts) =
    if test cut then number ∷ numbers_from (suc number) test cuts else numbers_from (suc number) test cuts

-- the numbers, from 1, of all cut sets that have at most this many members that are not out
abbrev pub tight : List ℕ → ℕ → List (List ℕ) → List ℕ
tight out most cuts = numbers_from 1 (is_tight out most) cuts
