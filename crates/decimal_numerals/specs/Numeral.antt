-- Decimal numerals: digits, and the number that they write.
use Rattle.std.specs.Prelude.{ℕ, ◌+◌, ◌-◌, ◌*◌, Bool, false, ◌&&◌, not, ◌==◌, nat_le, List, [], ◌∷◌, length}
use Rattle.std.specs.{List.list_all, Char.is_ascii_digit}

-- one digit or more, and no more than so many
abbrev pub are_digits : ℕ → List ℕ → Bool
are_digits most text = nat_le 1 (length text) && nat_le (length text) most && list_all is_ascii_digit text

-- a zero in front of other digits
abbrev pub has_leading_zero : List ℕ → Bool
has_leading_zero [] = false
has_leading_zero (first ∷ []) = false
has_leading_zero (first ∷ second ∷ rest) = first == 48

-- digits without a zero in front of others: the one way to write a number
abbrev pub is_numeral : ℕ → List ℕ → Bool
is_numeral most text = are_digits most text && not (has_leading_zero text)

-- the number that digits write behind one
abbrev pub number_from : ℕ → List ℕ → ℕ
number_from number [] = number
number_from number (digit ∷ digits) = number_from (10 * number + (digit - 48)) digits
