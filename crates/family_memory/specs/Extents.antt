-- How far the sets of a family reach.
use Rattle.std.specs.Prelude.{◌≡◌, ℕ, ◌≤◌, ◌<◌, ◌%◌, true, List, Contains, length}
use Rattle.std.specs.Int.{bit_at}
use Rattle.unit_sets.specs.UnitList.{among, is_within}
use Rattle.zdd_families.specs.Units.{IsLastUnit}
use Rattle.family_memory.specs.declared.extents.Extent.{Extent}

-- each set has this unit or a greater one, where it is a unit
abbrev pub Reach : List (List ℕ) → ℕ → Type 0
Reach f reach = 1 ≤ reach → (set : List ℕ) → Contains f set → (unit : ℕ) × (reach ≤ unit) × (among set unit ≡ true)

-- each set has at least so many units
abbrev pub HaveAtLeast : List (List ℕ) → ℕ → Type 0
HaveAtLeast f least = (set : List ℕ) → Contains f set → least ≤ length set

-- each set has at most so many units, where that is not the greatest number of its type
abbrev pub HaveAtMost : List (List ℕ) → ℕ → Type 0
HaveAtMost f most = most < 65535 → (set : List ℕ) → Contains f set → length set ≤ most

-- each unit of the sets has its mark among these: a unit's mark is its number modulo 64, a bit of a word
abbrev pub HaveMarks : List (List ℕ) → ℕ → Type 0
HaveMarks f marks = (set : List ℕ) → Contains f set → (unit : ℕ) → among set unit ≡ true
    → bit_at marks (unit % 64) ≡ 1

-- each set has a unit with each of the marks
abbrev pub ShareMarks : List (List ℕ) → ℕ → Type 0
ShareMarks f marks = (mark : ℕ) → bit_at marks mark ≡ 1 → (set : List ℕ) → Contains f set
    → (unit : ℕ) × (unit % 64 ≡ mark) × (among set unit ≡ true)

-- the greatest unit, one that each set reaches, bounds for the numbers of units, and marks of units
pub record IsExtent (f : List (List ℕ)) (extent : Extent) : Type 0 where
  pub last : IsLastUnit f extent.last
  pub reach : Reach f extent.reach
  pub least : HaveAtLeast f extent.least
  pub most : HaveAtMost f extent.most
  pub units : HaveMarks f extent.units
  pub common : ShareMarks f extent.common

-- no set of the first family includes one of the second
abbrev pub IncludesNone : List (List ℕ) → List (List ℕ) → Type 0
IncludesNone f g = (set part : List ℕ) → Contains f set → Contains g part → is_within set part ≡ true → ⊥
