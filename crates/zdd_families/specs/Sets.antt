-- The union of two sets of units, each a rising list.
use Rattle.std.specs.Prelude.{ℕ, List, [], ◌∷◌}
use Rattle.unit_sets.specs.UnitList.{with_unit}

-- the units of either set
abbrev pub joined : List ℕ → List ℕ → List ℕ
joined [] b = b
joined (unit ∷ a) b = with_unit unit (joined a b)
