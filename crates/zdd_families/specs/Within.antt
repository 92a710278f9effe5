-- How many families have a set within a set of units, which is told as a test of a unit.
use Rattle.std.specs.Prelude.{ℕ, ◌+◌, Bool, List, [], ◌∷◌}
use Rattle.std.specs.Prelude.{if◌then◌else◌}
use Rattle.unit_sets.specs.UnitList.{some_within}

-- how many families of the list have a set within
abbrev pub count_within : List (List (List ℕ)) → (ℕ → Bool) → ℕ
count_within [] within = 0
count_within (family ∷ families) within = (if some_within family within then 1 else 0) + count_within families within
