-- Votes over a list of families: each union of sets chosen one from each of some number of positions.
use Rattle.std.specs.Prelude.{◌≡◌, ◌↔◌, ◌⊎◌, ℕ, zero, suc, List, [], ◌∷◌, Contains}
use Rattle.zdd_families.specs.{Family.IsFamily, Sets.joined}

-- the set is a union of sets chosen one from each of so many positions of the list: at each position
-- there is a set chosen, or none
abbrev pub IsChoice : List (List (List ℕ)) → ℕ → List ℕ → Type 0
IsChoice [] zero set = set ≡ []
IsChoice [] (suc count) set = ⊥
IsChoice (family ∷ families) zero set = IsChoice families zero set
IsChoice (family ∷ families) (suc count) set =
    IsChoice families (suc count) set
    ⊎ ((first : List ℕ) × (rest : List ℕ) × Contains family first × IsChoice families count rest
    × (set ≡ joined first rest))

-- the family has each such union
pub record IsVotes (count : ℕ) (families : List (List (List ℕ))) (votes : List (List ℕ)) : Type 0 where
  pub is_family : IsFamily votes
  pub sets : (set : List ℕ) → Contains votes set ↔ IsChoice families count set
