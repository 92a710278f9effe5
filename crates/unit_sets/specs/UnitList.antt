-- Sets of units, each written as the rising list of its members.
use Rattle.std.specs.Prelude.{ℕ, Bool, not, ◌==◌, nat_lt, List, [], ◌∷◌, filter, All}
use Rattle.std.specs.Prelude.{if◌then◌else◌}
use Rattle.std.specs.{List.list_any, List.list_all, List.Sorted.IsStrictlySortedBy, Ordering.nat_cmp}
use Rattle.unit_sets.specs.Unit.{IsUnit}

-- whether the unit is a member of the set
abbrev pub among : List ℕ → ℕ → Bool
among set unit = list_any (λ member. member == unit) set

-- each member is below those after it
abbrev pub IsRising : List ℕ → Type 0
IsRising set = IsStrictlySortedBy nat_cmp set

-- the set with one unit more; a set that has it already stays as it is
abbrev pub with_unit : ℕ → List ℕ → List ℕ
with_unit unit [] = unit ∷ []
with_unit unit (first ∷ others) =
    if nat_lt unit first then unit ∷ first ∷ others
    else (if first == unit then first ∷ others else first ∷ with_unit unit others)

-- the set without one unit
abbrev pub without_unit : ℕ → List ℕ → List ℕ
without_unit unit set = filter (λ member. not (member == unit)) set

-- the members of the second set that are not in the first
abbrev pub outside : List ℕ → List ℕ → List ℕ
outside other set = filter (λ member. not (among other member)) set

-- every member of the second set is in the first
abbrev pub is_within : List ℕ → List ℕ → Bool
is_within other set = list_all (among other) set

-- whether some set of the list lies within: all its members pass the test
abbrev pub some_within : List (List ℕ) → (ℕ → Bool) → Bool
some_within sets within = list_any (list_all within) sets

-- a set of units: each below those after it, and each a unit's number
pub record IsUnitSet (set : List ℕ) : Type 0 where
  pub rising : IsRising set
  pub units : All IsUnit set
