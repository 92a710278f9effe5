-- Which units are out of service, and who holds them.
use Rattle.std.specs.Prelude.{ℕ, List, [], ◌∷◌, length, slice_index_or, slice_set, Option, Some, None, is_some}
use Rattle.unit_sets.specs.{declared.request.CrewNo.CrewNo, Words.passing_below}

-- The map from each unit that is out to its holder: at the place of a unit's number its holder, if it is out.
abbrev pub Held : Type 0
Held = List (Option CrewNo)

-- the holder of a unit, if it is out
abbrev pub holder_of : Held → ℕ → Option CrewNo
holder_of held unit = slice_index_or held unit None

-- the units that are out, in rising order
abbrev pub units_out : Held → List ℕ
units_out held = passing_below (λ unit. is_some (holder_of held unit)) (length held)

-- the map with one unit held by a crew
abbrev pub with_held : CrewNo → ℕ → Held → Held
with_held crew unit held = slice_set held unit (Some crew)

-- the map with all these units held by a crew
abbrev pub with_all_held : CrewNo → List ℕ → Held → Held
with_all_held crew [] held = held
with_all_held crew (unit ∷ units) held = with_all_held crew units (with_held crew unit held)

-- the map with one unit in service again
abbrev pub without_held : ℕ → Held → Held
without_held unit held = slice_set held unit None

-- the first one where there is one, else the second
abbrev pub or_else : Option CrewNo → Option CrewNo → Option CrewNo
or_else (Some holder) later = Some holder
or_else None later = later

-- the holder of the first of some units that is out, if any is
abbrev pub first_holder : Held → List ℕ → Option CrewNo
first_holder held [] = None
first_holder held (unit ∷ units) = or_else (holder_of held unit) (first_holder held units)
