-- Numbers as words: 1 to 6 decimal digits without a sign, and without a leading zero unless it is `0` alone.
use Rattle.std.specs.Prelude.{ℕ, ◌&&◌, nat_le, if◌then◌else◌, List, Option, Some, None}
use Rattle.decimal_numerals.specs.Numeral.{is_numeral, number_from}

-- the number that a word says, where it is within these bounds
abbrev pub number_within : ℕ → ℕ → List ℕ → Option ℕ
number_within least most word =
    if is_numeral 6 word then (if nat_le least (number_from 0 word) && nat_le (number_from 0 word) most
    then Some (number_from 0 word) else None)
    else None
