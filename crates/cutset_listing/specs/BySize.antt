-- The sets of a family apart by their size, and one size after the other.
use Rattle.std.specs.Prelude.{ℕ, ◌==◌, List, [], ◌∷◌, ◌++◌, filter, length, slice_index_or}

-- the sets of one size, as they stand in the family
abbrev pub of_size : ℕ → List (List ℕ) → List (List ℕ)
of_size size family = filter (λ set. length set == size) family

-- of lists for the sizes from 0 on, the one of a size
abbrev pub at_size : List (List (List ℕ)) → ℕ → List (List ℕ)
at_size lists size = slice_index_or lists size []

-- the lists one after the other
abbrev pub joined : List (List (List ℕ)) → List (List ℕ)
joined [] = []
joined (list ∷ lists) = list ++ joined lists
