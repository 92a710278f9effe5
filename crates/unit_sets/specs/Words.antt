-- How words of 64 bits hold a set of units: the bit u % 64 of the word u / 64 stands for the unit u.
use Rattle.std.specs.Prelude.{ℕ, ◌/◌, ◌%◌, Bool, zero, suc, ◌==◌, List, [], ◌∷◌, ◌++◌, slice_index, if◌then◌else◌, ◌≡◌}
use Rattle.std.specs.Prelude.{false, length}
use Rattle.std.specs.Int.{bit_at}

-- whether the words have the bit of a number set
abbrev pub has_bit : List ℕ → ℕ → Bool
has_bit words number = bit_at (slice_index words (number / 64)) (number % 64) == 1

-- the numbers below a bound that pass a test, in rising order
unfoldable pub passing_below : (ℕ → Bool) → ℕ → List ℕ
passing_below test zero = []
passing_below test (suc n) = passing_below test n ++ (if test n then n ∷ [] else [])

-- the units that the words hold: a unit's number is below 4096
abbrev pub units_of : List ℕ → List ℕ
units_of words = passing_below (has_bit words) 4096

-- there are words for every unit, and no bit is set for the number 0, which no unit has
pub record HoldsUnits (words : List ℕ) : Type 0 where
  pub all_units : length words ≡ 64
  pub not_zero : has_bit words 0 ≡ false
