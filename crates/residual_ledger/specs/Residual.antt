-- What is left of a cut set while some units are out of service.
use Rattle.std.specs.Prelude.{ℕ, ◌+◌, ◌<◌, List, [], length, All}
use Rattle.std.specs.Prelude.{slice_index_or}
use Rattle.unit_sets.specs.UnitList.{outside}

-- how many members of a cut set are not out
abbrev pub residual : List ℕ → List ℕ → ℕ
residual out cut = length (outside out cut)

-- the cut set at a place, from 0
abbrev pub cut_at : List (List ℕ) → ℕ → List ℕ
cut_at cuts place = slice_index_or cuts place []

-- each unit of a cut set is below a number
abbrev pub HasUnitsBelow : ℕ → List (List ℕ) → Type 0
HasUnitsBelow number cuts = All (λ cut. All (λ unit. unit < number) cut) cuts

-- no cut set has a unit above a number
abbrev pub HasUnitsUpTo : ℕ → List (List ℕ) → Type 0
HasUnitsUpTo units cuts = HasUnitsBelow (units + 1) cuts
