-- The product of two families: each union of a set of the one and a set of the other.
use Rattle.std.specs.Prelude.{◌≡◌, ◌↔◌, ℕ, List, Contains}
use Rattle.zdd_families.specs.{Family.IsFamily, Sets.joined, Union.IsUnion}

-- the set is the union of a set of f and a set of g
pub record IsJoin (f g : List (List ℕ)) (set : List ℕ) : Type 0 where
  pub first : List ℕ
  pub second : List ℕ
  pub of_f : Contains f first
  pub of_g : Contains g second
  pub is : set ≡ joined first second

-- the family has each union of a set of f and a set of g
pub record IsProduct (f g product : List (List ℕ)) : Type 0 where
  pub is_family : IsFamily product
  pub sets : (set : List ℕ) → Contains product set ↔ IsJoin f g set

-- the four products of the parts, and the union of the three whose sets have x
pub record IsProductOfParts (f0 f1 g0 g1 h0 h1 : List (List ℕ)) : Type 0 where
  pub both_with : List (List ℕ)
  pub first_with : List (List ℕ)
  pub second_with : List (List ℕ)
  pub some_with : List (List ℕ)
  pub none_is : IsProduct f0 g0 h0
  pub both_is : IsProduct f1 g1 both_with
  pub first_is : IsProduct f1 g0 first_with
  pub second_is : IsProduct f0 g1 second_with
  pub some_is : IsUnion both_with first_with some_with
  pub all_is : IsUnion some_with second_with h1
