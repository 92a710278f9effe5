-- Which families are due to an operation: its result, and what is due to the operations by which the
-- recursion over the least units of the operands gives that result. An end of a recursion, where the
-- result is given at once, has no inner operations.
use Rattle.std.specs.Prelude.{◌≡◌, ◌≢◌, ℕ, suc, ◌<◌, List, [], ◌∷◌, ◌++◌}
use Rattle.zdd_families.specs.{Family.IsAbove, Cuts.Cuts, Union.IsUnion, Product.IsProduct, Without.IsWithout}
use Rattle.zdd_families.specs.{Minimal.IsMinimal, Votes.IsVotes}

-- x is the least unit of f: lo has the sets without it, and hi the sets with it, x taken out
pub record Splits (x : ℕ) (f lo hi : List (List ℕ)) : Type 0 where
  pub cut : Cuts x f lo hi
  pub some_with : hi ≢ []

-- f has sets, and is not the family of the empty set alone
pub record IsInnerFamily (f : List (List ℕ)) : Type 0 where
  pub not_none : f ≢ []
  pub not_unit : f ≢ [] ∷ []

-- no end of the union: both families have sets, and they differ
pub record GoesOn (f g : List (List ℕ)) : Type 0 where
  pub first_some : f ≢ []
  pub second_some : g ≢ []
  pub differ : f ≢ g

-- the family is the union of f and g, or due to one of the unions by which it is made
pub data IsDueToUnion : List (List ℕ) → List (List ℕ) → List (List ℕ) → Type 0 where
  union_itself : {f g due : List (List ℕ)} → IsUnion f g due → IsDueToUnion f g due
  union_both_lo : {f g due : List (List ℕ)} {x : ℕ} {f0 f1 g0 g1 : List (List ℕ)} → GoesOn f g → Splits x f f0 f1
      → Splits x g g0 g1 → IsDueToUnion f0 g0 due → IsDueToUnion f g due
  union_both_hi : {f g due : List (List ℕ)} {x : ℕ} {f0 f1 g0 g1 : List (List ℕ)} → GoesOn f g → Splits x f f0 f1
      → Splits x g g0 g1 → IsDueToUnion f1 g1 due → IsDueToUnion f g due
  union_first : {f g due : List (List ℕ)} {x : ℕ} {f0 f1 : List (List ℕ)} → GoesOn f g → Splits x f f0 f1 → IsAbove x g
      → IsDueToUnion f0 g due → IsDueToUnion f g due
  union_second : {f g due : List (List ℕ)} {y : ℕ} {g0 g1 : List (List ℕ)} → GoesOn f g → Splits y g g0 g1 → IsAbove y f
      → IsDueToUnion f g0 due → IsDueToUnion f g due

-- the family is the product of f and g, or due to an operation by which it is made
pub data IsDueToProduct : List (List ℕ) → List (List ℕ) → List (List ℕ) → Type 0 where
  product_itself : {f g due : List (List ℕ)} → IsProduct f g due → IsDueToProduct f g due
  product_both_lo : {f g due : List (List ℕ)} {x : ℕ} {f0 f1 g0 g1 : List (List ℕ)} → IsInnerFamily f → IsInnerFamily g
      → Splits x f f0 f1 → Splits x g g0 g1 → IsDueToProduct f0 g0 due → IsDueToProduct f g due
  product_both_hi : {f g due : List (List ℕ)} {x : ℕ} {f0 f1 g0 g1 : List (List ℕ)} → IsInnerFamily f → IsInnerFamily g
      → Splits x f f0 f1 → Splits x g g0 g1 → IsDueToProduct f1 g1 due → IsDueToProduct f g due
  product_hi_lo : {f g due : List (List ℕ)} {x : ℕ} {f0 f1 g0 g1 : List (List ℕ)} → IsInnerFamily f → IsInnerFamily g
      → Splits x f f0 f1 → Splits x g g0 g1 → IsDueToProduct f1 g0 due → IsDueToProduct f g due
  product_lo_hi : {f g due : List (List ℕ)} {x : ℕ} {f0 f1 g0 g1 : List (List ℕ)} → IsInnerFamily f → IsInnerFamily g
      → Splits x f f0 f1 → Splits x g g0 g1 → IsDueToProduct f0 g1 due → IsDueToProduct f g due
  product_two : {f g due : List (List ℕ)} {x : ℕ} {f0 f1 g0 g1 p q : List (List ℕ)} → IsInnerFamily f → IsInnerFamily g
      → Splits x f f0 f1 → Splits x g g0 g1 → IsProduct f1 g1 p → IsProduct f1 g0 q → IsDueToUnion p q due
      → IsDueToProduct f g due
  product_three : {f g due : List (List ℕ)} {x : ℕ} {f0 f1 g0 g1 p q u r : List (List ℕ)} → IsInnerFamily f
      → IsInnerFamily g → Splits x f f0 f1 → Splits x g g0 g1 → IsProduct f1 g1 p → IsProduct f1 g0 q → IsUnion p q u
      → IsProduct f0 g1 r → IsDueToUnion u r due → IsDueToProduct f g due
  product_first_lo : {f g due : List (List ℕ)} {x : ℕ} {f0 f1 : List (List ℕ)} → IsInnerFamily f → IsInnerFamily g
      → Splits x f f0 f1 → IsAbove x g → IsDueToProduct f0 g due → IsDueToProduct f g due
  product_first_hi : {f g due : List (List ℕ)} {x : ℕ} {f0 f1 : List (List ℕ)} → IsInnerFamily f → IsInnerFamily g
      → Splits x f f0 f1 → IsAbove x g → IsDueToProduct f1 g due → IsDueToProduct f g due
  product_second_lo : {f g due : List (List ℕ)} {y : ℕ} {g0 g1 : List (List ℕ)} → IsInnerFamily f → IsInnerFamily g
      → Splits y g g0 g1 → IsAbove y f → IsDueToProduct f g0 due → IsDueToProduct f g due
  product_second_hi : {f g due : List (List ℕ)} {y : ℕ} {g0 g1 : List (List ℕ)} → IsInnerFamily f → IsInnerFamily g
      → Splits y g g0 g1 → IsAbove y f → IsDueToProduct f g1 due → IsDueToProduct f g due

-- the family is f without the sets that include one of g, or due to an operation by which that is made
pub data IsDueToWithout : List (List ℕ) → List (List ℕ) → List (List ℕ) → Type 0 where
  without_itself : {f g due : List (List ℕ)} → IsWithout f g due → IsDueToWithout f g due
  without_both_lo : {f g due : List (List ℕ)} {x : ℕ} {f0 f1 g0 g1 : List (List ℕ)} → IsInnerFamily f → IsInnerFamily g
      → Splits x f f0 f1 → Splits x g g0 g1 → IsDueToWithout f0 g0 due → IsDueToWithout f g due
  without_both_hi : {f g due : List (List ℕ)} {x : ℕ} {f0 f1 g0 g1 : List (List ℕ)} → IsInnerFamily f → IsInnerFamily g
      → Splits x f f0 f1 → Splits x g g0 g1 → IsDueToWithout f1 g1 due → IsDueToWithout f g due
  without_both_rest : {f g due : List (List ℕ)} {x : ℕ} {f0 f1 g0 g1 w : List (List ℕ)} → IsInnerFamily f
      → IsInnerFamily g → Splits x f f0 f1 → Splits x g g0 g1 → IsWithout f1 g1 w → IsDueToWithout w g0 due
      → IsDueToWithout f g due
  without_first_lo : {f g due : List (List ℕ)} {x : ℕ} {f0 f1 : List (List ℕ)} → IsInnerFamily f → IsInnerFamily g
      → Splits x f f0 f1 → IsAbove x g → IsDueToWithout f0 g due → IsDueToWithout f g due
  without_first_hi : {f g due : List (List ℕ)} {x : ℕ} {f0 f1 : List (List ℕ)} → IsInnerFamily f → IsInnerFamily g
      → Splits x f f0 f1 → IsAbove x g → IsDueToWithout f1 g due → IsDueToWithout f g due
  without_second : {f g due : List (List ℕ)} {y : ℕ} {g0 g1 : List (List ℕ)} → IsInnerFamily f → IsInnerFamily g
      → Splits y g g0 g1 → IsAbove y f → IsDueToWithout f g0 due → IsDueToWithout f g due

-- the family has the minimal sets of f, or is due to an operation by which these are found
pub data IsDueToMinimal : List (List ℕ) → List (List ℕ) → Type 0 where
  minimal_itself : {f due : List (List ℕ)} → IsMinimal f due → IsDueToMinimal f due
  minimal_lo : {f due : List (List ℕ)} {x : ℕ} {f0 f1 : List (List ℕ)} → Splits x f f0 f1 → IsDueToMinimal f0 due
      → IsDueToMinimal f due
  minimal_hi : {f due : List (List ℕ)} {x : ℕ} {f0 f1 : List (List ℕ)} → Splits x f f0 f1 → IsDueToMinimal f1 due
      → IsDueToMinimal f due
  minimal_rest : {f due : List (List ℕ)} {x : ℕ} {f0 f1 m0 m1 : List (List ℕ)} → Splits x f f0 f1 → IsMinimal f0 m0
      → IsMinimal f1 m1 → IsDueToWithout m1 m0 due → IsDueToMinimal f due

-- member by member, each number of votes j up to the asked one becomes its union with the product of
-- the votes j - 1 and the member
pub data IsDueToVotes : ℕ → List (List (List ℕ)) → List (List ℕ) → Type 0 where
  votes_itself : {k : ℕ} {families : List (List (List ℕ))} {due : List (List ℕ)} → IsVotes k families due
      → IsDueToVotes k families due
  votes_product : {k : ℕ} {families : List (List (List ℕ))} {due : List (List ℕ)} (before after : List (List (List ℕ)))
      {member fewer : List (List ℕ)} (j : ℕ) → j < k → families ≡ before ++ member ∷ after → IsVotes j before fewer
      → IsDueToProduct fewer member due → IsDueToVotes k families due
  votes_union : {k : ℕ} {families : List (List (List ℕ))} {due : List (List ℕ)} (before after : List (List (List ℕ)))
      {member same fewer more : List (List ℕ)} (j : ℕ) → j < k → families ≡ before ++ member ∷ after
      → IsVotes (suc j) before same → IsVotes j before fewer → IsProduct fewer member more → IsDueToUnion same more due
      → IsDueToVotes k families due
