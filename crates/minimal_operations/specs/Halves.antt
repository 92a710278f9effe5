-- A reference at a unit that none of its units is below.
use Rattle.std.specs.Prelude.{ℕ, ◌<◌}
use Rattle.unit_sets.specs.Unit.{IsUnit}
use Rattle.zdd_words.specs.declared.word.Parts.{Parts}
use Rattle.zdd_families.specs.{Map.level_in, Cuts.Cuts}
use Rattle.family_memory.specs.Memory.{Held, Has, IsSound, family_in, map_of}
use Rattle.minimal_operations.specs.declared.halves.Half.{Half}

-- the sets without the unit, and those with it, it taken out
pub record IsHalf (held : Held) (x r : ℕ) (half : Half) : Type 0 where
  pub has_lo : Has held half.lo
  pub has_hi : Has held half.hi
  pub lo_above : x < level_in (map_of held) half.lo
  pub hi_above : x < level_in (map_of held) half.hi
  pub cut : Cuts x (family_in held r) (family_in held half.lo) (family_in held half.hi)

-- both parts are of the memory, and all their units are above x
pub record ArePartsAbove (held : Held) (x : ℕ) (parts : Parts) : Type 0 where
  pub sound : IsSound held
  pub unit : IsUnit x
  pub has_lo : Has held parts.lo
  pub has_hi : Has held parts.hi
  pub lo_above : x < level_in (map_of held) parts.lo
  pub hi_above : x < level_in (map_of held) parts.hi
