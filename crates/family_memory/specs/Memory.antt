-- A memory of diagrams: node words by their references, and the minimal families for which these stand.
use Rattle.std.specs.Prelude.{◌≡◌, ◌≢◌, ℕ, ◌+◌, ◌<◌, ◌≤◌, List, get_or, length}
use Rattle.event_counts.specs.Count.{Rose, last_count}
use Rattle.unit_sets.specs.Unit.{IsUnit}
use Rattle.zdd_words.specs.Word.{level_of, lo_of, hi_of}
use Rattle.zdd_families.specs.{Family.branch, Cuts.Cuts, Antichains.IsAntichain}
use Rattle.zdd_families.specs.Map.{IsClosed, Grown, family, level_in}
use Rattle.zdd_words.specs.declared.word.Parts.{Parts}

-- what a memory holds: the word of each reference, where the terminals have none, how many nodes it takes at most, and
-- how often it had no room for a node
pub record Held : Type 0 where
  pub words : List ℕ
  pub room : ℕ
  pub refused : ℕ

-- the words as a map
abbrev pub map_of : Held → ℕ → ℕ
map_of held r = get_or held.words r 0

-- a terminal, or a reference to a node that the memory holds
abbrev pub Has : Held → ℕ → Type 0
Has held r = r < length held.words

-- the family for which a reference stands
abbrev pub family_in : Held → ℕ → List (List ℕ)
family_in held r = family (map_of held) r

-- the family of a word: the sets of its lo, and those of its hi each with its level
abbrev pub word_family : Held → ℕ → List (List ℕ)
word_family held word = branch (level_of word) (family_in held (lo_of word)) (family_in held (hi_of word))

-- the room for nodes is used up
abbrev pub IsUsedUp : Held → Type 0
IsUsedUp held = held.room + 2 ≤ length held.words

-- what a memory keeps: lo and hi of each node are of the memory and lie above its level, hi has sets, and
-- each reference stands for a family in which no set includes another. The count of refused nodes is a `u64`
pub record IsSound (held : Held) : Type 0 where
  pub terminals : 2 ≤ length held.words
  pub fits : length held.words ≤ held.room + 2
  pub closed : IsClosed (map_of held)
  pub filled : (r : ℕ) → 2 ≤ r → Has held r → map_of held r ≢ 0
  pub antichains : (r : ℕ) → Has held r → IsAntichain (family_in held r)
  pub counted : held.refused ≤ last_count

-- the node of a reference: its level and both parts, which lie above the level
pub record IsNodeOf (held : Held) (r : ℕ) (parts : Parts) : Type 0 where
  pub unit : IsUnit parts.level
  pub level : level_in (map_of held) r ≡ parts.level
  pub has_lo : Has held parts.lo
  pub has_hi : Has held parts.hi
  pub filled : parts.hi ≢ 0
  pub lo_above : parts.level < level_in (map_of held) parts.lo
  pub hi_above : parts.level < level_in (map_of held) parts.hi
  pub cut : Cuts parts.level (family_in held r) (family_in held parts.lo) (family_in held parts.hi)

-- what an operation does to a memory, whatever its answer: what stood for a family still does
pub record Went (before after : Held) : Type 0 where
  pub longer : length before.words ≤ length after.words
  pub keeps : Grown (map_of before) (map_of after)
  pub room : after.room ≡ before.room
  pub steady : before.refused ≤ after.refused
  pub sound : IsSound after

-- the operation gave a reference to such a family
pub record Gave (Is : List (List ℕ) → Type 0) (before after : Held) (r : ℕ) : Type 0 where
  pub went : Went before after
  pub has : Has after r
  pub is : Is (family_in after r)

-- a node was refused on the way, as the room was used up
pub record RanOut (before after : Held) : Type 0 where
  pub went : Went before after
  pub used_up : IsUsedUp after
  pub rose : Rose before.refused after.refused
