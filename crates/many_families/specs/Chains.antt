-- Families that are cut at their least unit, to be united from there on.
use Rattle.std.specs.Prelude.{◌≡◌, ℕ, ◌<◌, ◌≤◌, List, All, Contains, length, map, slice_index}
use Rattle.zdd_families.specs.{Family.sets_with, Map.level_in, Cuts.Cuts}
use Rattle.family_memory.specs.Memory.{Held, Has, family_in, map_of}

-- no reference of the list has a level below the floor
abbrev pub AreFrom : Held → ℕ → List ℕ → Type 0
AreFrom held floor list = All (λ r. floor ≤ level_in (map_of held) r) list

-- no reference of the list has a lower level, and if it is a node it is one of them
pub record IsLowest (held : Held) (list : List ℕ) (r : ℕ) : Type 0 where
  pub has : Has held r
  pub least : AreFrom held (level_in (map_of held) r) list
  pub member : 2 ≤ r → Contains list r

-- the lower reference has the sets of the other that lack x, which is below all their units
pub record IsLowered (held : Held) (x r lower : ℕ) : Type 0 where
  pub has : Has held lower
  pub above : x < level_in (map_of held) lower
  pub cut : Cuts x (family_in held r) (family_in held lower) (sets_with x (family_in held r))

-- the references are lowered place by place
pub record AreAllLowered (held : Held) (x : ℕ) (list lower : List ℕ) : Type 0 where
  pub size : length lower ≡ length list
  pub lowered : (place : ℕ) → place < length list
      → IsLowered held x (slice_index list place) (slice_index lower place)

-- of each family the sets with x, it taken out
abbrev pub uppers : ℕ → List (List (List ℕ)) → List (List (List ℕ))
uppers x fs = map (sets_with x) fs
