-- Units by their numbers.
use Rattle.std.specs.Prelude.{ℕ, ◌≤◌}
use Rattle.unit_sets.specs.declared.unit_no.TheConstants.UnitNo.{MAX}

-- the greatest number of a unit, and so the most units of a tree
abbrev pub most_units : ℕ
most_units = MAX

-- a number that a unit can have
abbrev pub IsUnit : ℕ → Type 0
IsUnit n = (1 ≤ n) × (n ≤ most_units)
