-- What the fields of a memory keep, and what a node that is added does.
use Rattle.std.specs.Prelude.{◌≡◌, ℕ, ◌+◌, ◌≤◌, ◌^◌, List, [], ◌∷◌, ◌++◌, get_or, length}
use Rattle.std.specs.List.{All}
use Rattle.zdd_families.specs.Map.{Grown, level_in}
use Rattle.kept_answers.specs.declared.answers.Entry.{Entry}
use Rattle.family_memory.specs.{declared.extents.Extent.Extent, Extents.IsExtent, Answers.IsTold, Rests.IsRest}
use Rattle.event_counts.specs.Count.{next_count}
use Rattle.family_memory.specs.Memory.{Held, Has, IsSound, family_in, map_of, word_family}

-- what stands behind the end of a list of extents
abbrev pub no_extent : Extent
no_extent = record { last = 0; reach = 0; least = 0; most = 0; units = 0; common = 0; rest = 0 }

-- each reference of the memory has the extent of its family in its place of the list, and a node what is left of its
-- sets
pub record AreExtents (held : Held) (extents : List Extent) : Type 0 where
  pub count : length extents ≡ length held.words
  pub each : (r : ℕ) → Has held r → IsExtent (family_in held r) (get_or extents r no_extent)
  pub rests : (r : ℕ) → 2 ≤ r → Has held r
      → IsRest held (level_in (map_of held) r) (family_in held r) (get_or extents r no_extent).rest

-- the room was taken before, also for the extents; references to it fit into words, and each entry is true
pub record KeepsNodes (held : Held) (capacity : ℕ) (entries : List Entry) (extents : List Extent)
    (extents_capacity : ℕ) : Type 0 where
  pub sound : IsSound held
  pub few : held.room ≤ 2 ^ 25
  pub taken : held.room + 2 ≤ capacity
  pub told : All (IsTold held) entries
  pub reach : AreExtents held extents
  pub reach_taken : held.room + 2 ≤ extents_capacity

-- a word was added at the end, and its reference stands for its family
pub record IsAdded (before : Held) (word : ℕ) (after : Held) (r : ℕ) : Type 0 where
  pub words : after.words ≡ before.words ++ word ∷ []
  pub room : after.room ≡ before.room
  pub refused : after.refused ≡ before.refused
  pub has : Has after r
  pub family : family_in after r ≡ word_family before word
  pub keeps : Grown (map_of before) (map_of after)
  pub sound : IsSound after

-- the memory after a node for which it had no room
abbrev pub refusing : Held → Held
refusing held = record { words = held.words; room = held.room; refused = next_count held.refused }
