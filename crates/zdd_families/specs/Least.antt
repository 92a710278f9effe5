-- Minimal families: no set includes another, so that which sets of units include a set of one determines it.
use Rattle.std.specs.Prelude.{◌≡◌, ℕ, Bool, ◌&&◌, ◌||◌, nat_le, List}
use Rattle.std.specs.List.{list_all, list_any}
use Rattle.zdd_families.specs.{Within.count_within, Antichains.IsAntichain}
use Rattle.unit_sets.specs.UnitList.{some_within}

-- no set of the family includes another, and a set of units includes one of them exactly where the test says
pub record IsLeastFor (test : (ℕ → Bool) → Bool) (least : List (List ℕ)) : Type 0 where
  pub antichain : IsAntichain least
  pub some_within : (within : ℕ → Bool) → some_within least within ≡ test within

-- the minimal sets of the union of two families
abbrev pub IsLeastUnion : List (List ℕ) → List (List ℕ) → List (List ℕ) → Type 0
IsLeastUnion f g least = IsLeastFor (λ within. some_within f within || some_within g within) least

-- the minimal sets of the product of two families
abbrev pub IsLeastProduct : List (List ℕ) → List (List ℕ) → List (List ℕ) → Type 0
IsLeastProduct f g least = IsLeastFor (λ within. some_within f within && some_within g within) least

-- the minimal sets of the union of all families of a list
abbrev pub IsLeastOfAll : List (List (List ℕ)) → List (List ℕ) → Type 0
IsLeastOfAll families least = IsLeastFor (λ within. list_any (λ family. some_within family within) families) least

-- the minimal sets of so many votes over a list of families
abbrev pub IsLeastVotes : ℕ → List (List (List ℕ)) → List (List ℕ) → Type 0
IsLeastVotes count families least = IsLeastFor (λ within. nat_le count (count_within families within)) least

-- the minimal sets of the product of all families of a list
abbrev pub IsLeastProductOfAll : List (List (List ℕ)) → List (List ℕ) → Type 0
IsLeastProductOfAll families least = IsLeastFor
    (λ within. list_all (λ family. some_within family within) families) least
