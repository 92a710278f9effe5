-- Which sets of a family a set includes.
use Rattle.std.specs.Prelude.{◌≡◌, ℕ, Bool, true, List, Contains}
use Rattle.std.specs.List.{list_any}
use Rattle.unit_sets.specs.UnitList.{is_within}

-- whether the set includes a set of the family
abbrev pub includes_one : List (List ℕ) → List ℕ → Bool
includes_one family set = list_any (λ part. is_within set part) family

-- a set of the family that a set includes
pub record Includes (family : List (List ℕ)) (set : List ℕ) : Type 0 where
  pub part : List ℕ
  pub has : Contains family part
  pub within : is_within set part ≡ true
