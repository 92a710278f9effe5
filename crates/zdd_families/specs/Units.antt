-- The units of a family's sets: the greatest of them, and families that share none.
use Rattle.std.specs.Prelude.{◌≡◌, ◌⊎◌, ℕ, ◌≤◌, true, List, Contains}
use Rattle.unit_sets.specs.UnitList.{among}
use Rattle.zdd_families.specs.Family.{IsAbove}

-- some set of the family has the unit
abbrev pub HasUnit : List (List ℕ) → ℕ → Type 0
HasUnit f unit = (set : List ℕ) × Contains f set × (among set unit ≡ true)

-- the greatest unit of the family's sets, or 0 where they have none
pub record IsLastUnit (f : List (List ℕ)) (last : ℕ) : Type 0 where
  pub most : (unit : ℕ) → HasUnit f unit → unit ≤ last
  pub reached : (last ≡ 0) ⊎ HasUnit f last

-- no unit is in sets of both families
abbrev pub ShareNoUnit : List (List ℕ) → List (List ℕ) → Type 0
ShareNoUnit f g = (unit : ℕ) → HasUnit f unit → HasUnit g unit → ⊥

-- each unit of the first family is below all units of the second
abbrev pub LiesBelow : List (List ℕ) → List (List ℕ) → Type 0
LiesBelow f g = (unit : ℕ) → HasUnit f unit → IsAbove unit g
