-- The minimal sets of a family: those that include no other set of it.
use Rattle.std.specs.Prelude.{◌≡◌, ◌↔◌, ℕ, true, List, Contains}
use Rattle.unit_sets.specs.UnitList.{is_within}
use Rattle.zdd_families.specs.Family.{IsFamily}

-- the set includes no other set of the family
abbrev pub IncludesNoOther : List (List ℕ) → List ℕ → Type 0
IncludesNoOther family set = (other : List ℕ) → Contains family other → is_within set other ≡ true → other ≡ set

-- the family has the sets of f that include no other set of f
pub record IsMinimal (f least : List (List ℕ)) : Type 0 where
  pub is_family : IsFamily least
  pub sets : (set : List ℕ) → Contains least set ↔ (Contains f set × IncludesNoOther f set)
