-- The union of two families: the sets of either.
use Rattle.std.specs.Prelude.{◌↔◌, ◌⊎◌, ℕ, List, Contains}
use Rattle.zdd_families.specs.Family.{IsFamily}

-- the family has the sets of f and those of g
pub record IsUnion (f g union : List (List ℕ)) : Type 0 where
  pub is_family : IsFamily union
  pub sets : (set : List ℕ) → Contains union set ↔ (Contains f set ⊎ Contains g set)
