-- What follows from the definitions of `specs/Said`.
use Rattle.std.specs.Prelude.{ℕ, List, map}
use Rattle.galileo_tree.specs.declared.raw.Placed.{Placed}

abbrev pub names_in : List Placed → List (List ℕ)
names_in placed = map (λ p. p.name) placed
