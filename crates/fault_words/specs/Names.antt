-- Lists of names.
use Rattle.std.specs.Prelude.{ℕ, suc, Bool, true, not, ◌&&◌, nat_eq, List, [], ◌∷◌, Option, Some, None, position}
use Rattle.std.specs.{List.list_any, Cmp.Lexicographic.pointwise}

-- two names differ where any byte differs
abbrev pub same_name : List ℕ → List ℕ → Bool
same_name name other = pointwise nat_eq name other

-- one of the names is this name
abbrev pub has_name : List (List ℕ) → List ℕ → Bool
has_name names name = list_any (same_name name) names

-- no name stands twice
abbrev pub all_differ : List (List ℕ) → Bool
all_differ [] = true
all_differ (name ∷ names) = not (has_name names name) && all_differ names

-- the number of a name of these: its place from 1, or 0 of none
abbrev pub number_at : Option ℕ → ℕ
number_at None = 0
number_at (Some place) = suc place

-- the place of a name in the list, counted from 1, or 0 where the list has no such name
abbrev pub number_in : List (List ℕ) → List ℕ → ℕ
number_in names name = number_at (position (same_name name) names)
