-- What is left of a family without the sets that include a set of another.
use Rattle.std.specs.Prelude.{◌≡◌, ◌↔◌, ℕ, false, List, Contains}
use Rattle.zdd_families.specs.{Family.IsFamily, Inclusion.includes_one}

-- the family has the sets of f that include no set of g
pub record IsWithout (f g rest : List (List ℕ)) : Type 0 where
  pub is_family : IsFamily rest
  pub sets : (set : List ℕ) → Contains rest set ↔ (Contains f set × (includes_one g set ≡ false))
