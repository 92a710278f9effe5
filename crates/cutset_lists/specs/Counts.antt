-- Lists that count by how many of some nodes they are true.
use Rattle.std.specs.Prelude.{◌≡◌, ℕ, ◌+◌, ◌-◌, ◌<◌, ◌≤◌, Bool, ◌&&◌, ◌||◌, nat_le, List, [], length, All}
use Rattle.std.specs.Prelude.{slice_index_or, slice_set}
use Rattle.fault_definitions.specs.Reading.{true_count}
use Rattle.cutset_lists.specs.{Sets.AreSetsOf, Generation.reading_of}
use Rattle.unit_sets.specs.UnitList.{some_within}

-- the list for a count of nodes; the empty list, which is never true, where the counts do not go so far
abbrev pub count_at : List (List (List ℕ)) → ℕ → List (List ℕ)
count_at counts at = slice_index_or counts at []

-- from a lowest count up, each list is true where so many of the nodes' lists are
pub record IsCounting (lists : List (List (List ℕ))) (nodes : List ℕ) (most lowest : ℕ)
    (counts : List (List (List ℕ))) : Type 0 where
  pub all : length counts ≡ most + 1
  pub reached : (at : ℕ) → lowest ≤ at → at ≤ most → (within : ℕ → Bool)
      → some_within (count_at counts at) within ≡ nat_le at (true_count (reading_of lists within) nodes)
  pub sets : (passes : ℕ → Bool) → All (AreSetsOf passes) lists → All (AreSetsOf passes) counts

-- one count is also reached from the one below where a list is true
pub record CountsMore (list : List (List ℕ)) (at : ℕ) (old new : List (List (List ℕ))) : Type 0 where
  pub grown : List (List ℕ)
  pub is : new ≡ slice_set old at grown
  pub reached : (within : ℕ → Bool) → some_within grown within
      ≡ (some_within (count_at old at) within
      || (some_within (count_at old (at - 1)) within && some_within list within))
  pub sets : (passes : ℕ → Bool) → AreSetsOf passes list → All (AreSetsOf passes) old → AreSetsOf passes grown

-- each count from a lowest one up is
pub record CountsList (list : List (List ℕ)) (lowest : ℕ) (old new : List (List (List ℕ))) : Type 0 where
  pub all : length new ≡ length old
  pub lower : (at : ℕ) → at < lowest → count_at new at ≡ count_at old at
  pub reached : (at : ℕ) → lowest ≤ at → at < length old → (within : ℕ → Bool)
      → some_within (count_at new at) within ≡ (some_within (count_at old at) within
      || (some_within (count_at old (at - 1)) within && some_within list within))
  pub sets : (passes : ℕ → Bool) → AreSetsOf passes list → All (AreSetsOf passes) old → All (AreSetsOf passes) new
