-- What is left of a family where sets with low units are passed over.
use Rattle.std.specs.Prelude.{◌≡◌, ◌⊎◌, ℕ, ◌<◌, true, List, Contains}
use Rattle.unit_sets.specs.UnitList.{among}
use Rattle.zdd_families.specs.Map.{level_in}
use Rattle.family_memory.specs.Memory.{Held, Has, family_in, map_of}

-- the set has a unit below a number
abbrev pub HasUnitBelow : ℕ → List ℕ → Type 0
HasUnitBelow x set = (unit : ℕ) × (unit < x) × (among set unit ≡ true)

-- a reference to sets of a family with such a least unit: its own are above that, and each set that it lacks has a unit
-- below its level
pub record IsRest (held : Held) (level : ℕ) (f : List (List ℕ)) (rest : ℕ) : Type 0 where
  pub has : Has held rest
  pub above : level < level_in (map_of held) rest
  pub some : (set : List ℕ) → Contains (family_in held rest) set → Contains f set
  pub others : (set : List ℕ) → Contains f set
      → (Contains (family_in held rest) set) ⊎ HasUnitBelow (level_in (map_of held) rest) set
