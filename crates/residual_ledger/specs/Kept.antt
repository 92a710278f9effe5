-- The numbers kept of the cut sets: how much each has left, and the least of each block.
use Rattle.std.specs.Prelude.{◌≡◌, ℕ, suc, ◌+◌, ◌/◌, ◌<◌, ◌≤◌, true, false, List, length, map, slice_index}
use Rattle.unit_sets.specs.UnitList.{among}
use Rattle.residual_ledger.specs.Residual.{residual}

-- the residual of each cut set
abbrev pub residuals : List ℕ → List (List ℕ) → List ℕ
residuals out cuts = map (residual out) cuts

-- how many cut sets stand in one block
abbrev pub block_size : ℕ
block_size = 256

-- how many blocks hold so many cut sets, the last of which may be in part filled
abbrev pub blocks_for : ℕ → ℕ
blocks_for count = (count + 255) / block_size

-- The number stands in the block, and no number in the block is less. A place is in the block of its number divided
-- by the size.
pub record IsLeastOfBlock (counts : List ℕ) (block least : ℕ) : Type 0 where
  pub stands : (place : ℕ) × (place < length counts) × (place / block_size ≡ block) × (slice_index counts place ≡ least)
  pub below : (place : ℕ) → place < length counts → place / block_size ≡ block → least ≤ slice_index counts place

-- the least number of each block that has any
pub record HasLeast (counts least : List ℕ) : Type 0 where
  pub all : length least ≡ blocks_for (length counts)
  pub each : (block : ℕ) → block < length least → IsLeastOfBlock counts block (slice_index least block)

-- the number stands at the place, which is in the block, and no number in the block is less
pub record IsLowest (counts : List ℕ) (block least place : ℕ) : Type 0 where
  pub inside : place < length counts
  pub at : place / block_size ≡ block
  pub has : slice_index counts place ≡ least
  pub below : (k : ℕ) → k < length counts → k / block_size ≡ block → least ≤ slice_index counts k

-- the least number of each block that has any, and a place where it stands
pub record HasLowest (counts least lowest : List ℕ) : Type 0 where
  pub all : length least ≡ blocks_for (length counts)
  pub long : length lowest ≡ length least
  pub each : (block : ℕ) → block < length least
      → IsLowest counts block (slice_index least block) (slice_index lowest block)

-- the place is in the block and has at most one more than the number, and no number in the block is less
pub record IsNearLowest (counts : List ℕ) (block least place : ℕ) : Type 0 where
  pub inside : place < length counts
  pub at : place / block_size ≡ block
  pub near : slice_index counts place ≤ suc least
  pub below : (k : ℕ) → k < length counts → k / block_size ≡ block → least ≤ slice_index counts k

-- the least number of each block with its place, but near ones alone in the blocks from one on and before another
pub record HasLowestOutside (from end : ℕ) (counts least lowest : List ℕ) : Type 0 where
  pub all : length least ≡ blocks_for (length counts)
  pub long : length lowest ≡ length least
  pub near : (block : ℕ) → block < length least
      → IsNearLowest counts block (slice_index least block) (slice_index lowest block)
  pub exact : (block : ℕ) → block < length least → (from ≤ block → block < end → ⊥)
      → IsLowest counts block (slice_index least block) (slice_index lowest block)

-- the least number of each block with its place, but near ones alone in the blocks that have a place of a row
pub record HasLowestApart (row counts least lowest : List ℕ) : Type 0 where
  pub all : length least ≡ blocks_for (length counts)
  pub long : length lowest ≡ length least
  pub near : (block : ℕ) → block < length least
      → IsNearLowest counts block (slice_index least block) (slice_index lowest block)
  pub exact : (block : ℕ) → block < length least
      → ((place : ℕ) → among row place ≡ true → place / block_size ≡ block → ⊥)
      → IsLowest counts block (slice_index least block) (slice_index lowest block)

-- at the places of a row the one list has one more than the other, and they are the same elsewhere
pub record IsOneMore (row low high : List ℕ) : Type 0 where
  pub long : length low ≡ length high
  pub more : (place : ℕ) → among row place ≡ true → slice_index high place ≡ suc (slice_index low place)
  pub same : (place : ℕ) → among row place ≡ false → slice_index high place ≡ slice_index low place

-- the first place from one on, and before another, with a number that is at most this, or that other place
pub record IsFirstBetween (numbers : List ℕ) (from end most place : ℕ) : Type 0 where
  pub low : from ≤ place
  pub inside : place ≤ end
  pub before : (k : ℕ) → from ≤ k → k < place → suc most ≤ slice_index numbers k
  pub here : place < end → slice_index numbers place ≤ most

-- the first place with a number that is at most this, or the number of places where there is none
abbrev pub IsFirstAtMost : List ℕ → ℕ → ℕ → Type 0
IsFirstAtMost numbers most place = IsFirstBetween numbers 0 (length numbers) most place
