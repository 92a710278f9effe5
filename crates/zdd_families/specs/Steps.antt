-- The minimal sets of unions and products, by the parts of the operands at a unit.
use Rattle.std.specs.Prelude.{ℕ, ◌&&◌, ◌||◌, List}
use Rattle.unit_sets.specs.UnitList.{some_within}
use Rattle.zdd_families.specs.Least.{IsLeastFor}

-- the minimal sets of the product of two unions
abbrev pub IsLeastSides : List (List ℕ) → List (List ℕ) → List (List ℕ) → List (List ℕ) → List (List ℕ) → Type 0
IsLeastSides f0 f1 g0 g1 all =
    IsLeastFor (λ within. (some_within f0 within || some_within f1 within)
    && (some_within g0 within || some_within g1 within)) all
