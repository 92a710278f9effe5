-- What an operation makes that is no end of its recursion. An end makes nothing, since its result was given.
use Rattle.std.specs.Prelude.{ℕ, List}
use Rattle.zdd_families.specs.{Union.IsUnion, Product.IsProduct}
use Rattle.zdd_families.specs.Due.{GoesOn, IsInnerFamily, IsDueToUnion, IsDueToProduct, IsDueToWithout}
use Rattle.zdd_families.specs.Due.{IsDueToMinimal}

-- a family that the union of f and g makes on its way, where it is no end
abbrev pub IsMadeByUnion : List (List ℕ) → List (List ℕ) → List (List ℕ) → Type 0
IsMadeByUnion f g due = GoesOn f g × IsDueToUnion f g due

-- a family that the product of f and g makes on its way, where it is no end
abbrev pub IsMadeByProduct : List (List ℕ) → List (List ℕ) → List (List ℕ) → Type 0
IsMadeByProduct f g due = IsInnerFamily f × IsInnerFamily g × IsDueToProduct f g due

-- a family that taking out of f what includes a set of g makes on its way, where it is no end
abbrev pub IsMadeByWithout : List (List ℕ) → List (List ℕ) → List (List ℕ) → Type 0
IsMadeByWithout f g due = IsInnerFamily f × IsInnerFamily g × IsDueToWithout f g due

-- a family that finding the minimal sets of f makes on its way, where it is no end
abbrev pub IsMadeByMinimal : List (List ℕ) → List (List ℕ) → Type 0
IsMadeByMinimal f due = IsInnerFamily f × IsDueToMinimal f due

-- of the product of two families that are cut at a unit: the sets with it, it taken out
pub record IsProductWith (f0 f1 g0 g1 result : List (List ℕ)) : Type 0 where
  pub both_with : List (List ℕ)
  pub first_with : List (List ℕ)
  pub second_with : List (List ℕ)
  pub some_with : List (List ℕ)
  pub both_is : IsProduct f1 g1 both_with
  pub first_is : IsProduct f1 g0 first_with
  pub some_is : IsUnion both_with first_with some_with
  pub second_is : IsProduct f0 g1 second_with
  pub all_is : IsUnion some_with second_with result

-- what its three products and two unions make
pub data IsMadeWith : List (List ℕ) → List (List ℕ) → List (List ℕ) → List (List ℕ) → List (List ℕ) → Type 0 where
  with_both : {f0 f1 g0 g1 due : List (List ℕ)} → IsMadeByProduct f1 g1 due → IsMadeWith f0 f1 g0 g1 due
  with_first : {f0 f1 g0 g1 due : List (List ℕ)} → IsMadeByProduct f1 g0 due → IsMadeWith f0 f1 g0 g1 due
  with_some : {f0 f1 g0 g1 due p q : List (List ℕ)} → IsProduct f1 g1 p → IsProduct f1 g0 q → IsMadeByUnion p q due
      → IsMadeWith f0 f1 g0 g1 due
  with_second : {f0 f1 g0 g1 due : List (List ℕ)} → IsMadeByProduct f0 g1 due → IsMadeWith f0 f1 g0 g1 due
  with_all : {f0 f1 g0 g1 due p q u r : List (List ℕ)} → IsProduct f1 g1 p → IsProduct f1 g0 q → IsUnion p q u
      → IsProduct f0 g1 r → IsMadeByUnion u r due → IsMadeWith f0 f1 g0 g1 due
