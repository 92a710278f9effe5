-- The nodes that a search through a diagram has met.
use Rattle.std.specs.Prelude.{ℕ, ◌||◌, nat_lt, nat_eq, if◌then◌else◌, List, ◌∷◌, [], ◌++◌}
use Rattle.std.specs.List.{list_any}

-- one reference more behind those that were met; a terminal is no node
abbrev pub with_node : ℕ → List ℕ → List ℕ
with_node r nodes = if nat_lt r 2 || list_any (nat_eq r) nodes then nodes else nodes ++ r ∷ []
