-- Lists of sets that have no unit in common.
use Rattle.std.specs.Prelude.{◌≡◌, ℕ, Bool, true, false, List, AllPairs}
use Rattle.std.specs.List.{list_any}
use Rattle.unit_sets.specs.UnitList.{among}
use Rattle.cutset_lists.specs.Generation.{list_at}

-- whether some set of a list has the unit
abbrev pub has_unit : List (List ℕ) → ℕ → Bool
has_unit list unit = list_any (λ set. among set unit) list

-- no unit is in both of two lists
abbrev pub AreApart : List (List ℕ) → List (List ℕ) → Type 0
AreApart left right = (unit : ℕ) → has_unit left unit ≡ true → has_unit right unit ≡ false

-- no unit is in the lists of two of the nodes
abbrev pub AreAllApart : List (List (List ℕ)) → List ℕ → Type 0
AreAllApart lists nodes = AllPairs (λ earlier later. AreApart (list_at lists earlier) (list_at lists later)) nodes
