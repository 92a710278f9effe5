-- Definitions whose numbers are marked.
use Rattle.std.specs.Prelude.{ℕ, Bool, false, List, [], ◌∷◌, map, filter, Option, Some, None, slice_index_or}
use Rattle.std.specs.Borrow.{Bor}
use Rattle.fault_words.specs.{declared.place.Place.Place, Names.number_in}
use Rattle.galileo_tree.specs.declared.raw.Placed.{Placed}

-- what a reference leads to, if there is one
abbrev pub placed_list : Option (Bor Placed) → List Placed
placed_list None = []
placed_list (Some placed) = placed.now ∷ []

-- whether the number of the name that is defined is marked
abbrev pub is_marked : List Bool → List (List ℕ) → Placed → Bool
is_marked marks names definition = slice_index_or marks (number_in names definition.name) false

-- the places of the definitions that are marked
abbrev pub marked_places : List Bool → List (List ℕ) → List Placed → List Place
marked_places marks names definitions =
    map (λ definition. definition.place) (filter (is_marked marks names) definitions)
