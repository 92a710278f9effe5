-- A list of the sets of a family.
use Rattle.std.specs.Prelude.{◌↔◌, ℕ, ◌<◌, List, [], Contains}
use Rattle.unit_sets.specs.CutOrder.{IsInCutOrder, weight, weight_limit}

-- the list has the sets of the family and no others
abbrev pub HasSetsOf : List (List ℕ) → List (List ℕ) → Type 0
HasSetsOf family list = (set : List ℕ) → Contains list set ↔ Contains family set

-- the empty set is none of the sets
abbrev pub LacksEmptySet : List (List ℕ) → Type 0
LacksEmptySet family = Contains family [] → ⊥

-- there is a list of exactly the family's sets in the order of cut sets, and it weighs more than a list may
pub record HasHeavyList (family : List (List ℕ)) : Type 0 where
  pub list : List (List ℕ)
  pub sets : HasSetsOf family list
  pub ordered : IsInCutOrder list
  pub heavy : weight_limit < weight list
