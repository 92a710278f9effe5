-- Which cut sets hold a unit, and how rows of their numbers lie one after another in one buffer.
use Rattle.std.specs.Prelude.{◌≡◌, ℕ, zero, suc, ◌+◌, ◌-◌, ◌<◌, ◌≤◌, List, length, take, drop, slice_index}
use Rattle.unit_sets.specs.{UnitList.among, Words.passing_below}
use Rattle.residual_ledger.specs.Residual.{cut_at}

-- the places, from 0 and rising, of those of the first cut sets that hold the unit
abbrev pub holding_below : List (List ℕ) → ℕ → ℕ → List ℕ
holding_below cuts unit count = passing_below (λ place. among (cut_at cuts place) unit) count

-- the places, from 0 and rising, of all cut sets that hold the unit
abbrev pub holding : List (List ℕ) → ℕ → List ℕ
holding cuts unit = holding_below cuts unit (length cuts)

-- how many cut sets hold the unit
abbrev pub holders : List (List ℕ) → ℕ → ℕ
holders cuts unit = length (holding cuts unit)

-- where the row of a number begins, if the rows of 0, 1, 2 and so on have these sizes
unfoldable pub start_of : (ℕ → ℕ) → ℕ → ℕ
start_of size zero = 0
start_of size (suc number) = start_of size number + size number

-- the numbers from one place of a row up to another
abbrev pub between : ℕ → ℕ → List ℕ → List ℕ
between from to numbers = take (to - from) (drop from numbers)

-- Rows of the given sizes lie one after another, and the row of each number has so far what it holds, up to its end.
pub record IsFilling (size : ℕ → ℕ) (held : ℕ → List ℕ) (ends rows : List ℕ) : Type 0 where
  pub room : length rows ≡ start_of size (length ends)
  pub fits : (number : ℕ) → number < length ends → length (held number) ≤ size number
  pub placed : (number : ℕ) → number < length ends → slice_index ends number ≡ start_of size number + length
      (held number)
  pub has : (number k : ℕ) → number < length ends → k < length (held number)
      → slice_index rows (start_of size number + k) ≡ slice_index (held number) k

-- each row has so far those of the first cut sets that hold its number
abbrev pub HoldsFirst : List (List ℕ) → ℕ → List ℕ → List ℕ → Type 0
HoldsFirst cuts count ends rows = IsFilling (holders cuts) (λ unit. holding_below cuts unit count) ends rows

-- for each number up to that of the last unit, how many cut sets hold it
pub record HasSizes (units : ℕ) (cuts : List (List ℕ)) (sizes : List ℕ) : Type 0 where
  pub all : length sizes ≡ units + 1
  pub each : (unit : ℕ) → unit < length sizes → slice_index sizes unit ≡ holders cuts unit

-- where the row of each number begins
abbrev pub HasStarts : (ℕ → ℕ) → List ℕ → Type 0
HasStarts size starts = (number : ℕ) → number < length starts → slice_index starts number ≡ start_of size number

-- The row of a unit is where the row before it ends, up to its own end.
pub record HasRow (cuts : List (List ℕ)) (ends rows : List ℕ) (unit : ℕ) : Type 0 where
  pub order : slice_index ends (unit - 1) ≤ slice_index ends unit
  pub inside : slice_index ends unit ≤ length rows
  pub is : between (slice_index ends (unit - 1)) (slice_index ends unit) rows ≡ holding cuts unit

-- each unit up to a number has the row of the cut sets that hold it
pub record HasRows (units : ℕ) (cuts : List (List ℕ)) (ends rows : List ℕ) : Type 0 where
  pub all : length ends ≡ units + 1
  pub row : (unit : ℕ) → 1 ≤ unit → unit ≤ units → HasRow cuts ends rows unit
