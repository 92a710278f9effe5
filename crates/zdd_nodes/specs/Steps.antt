-- Steps of a node's recipe that are more than one operation.
use Rattle.std.specs.Prelude.{◌≡◌, ◌⊎◌, ℕ, List}
use Rattle.zdd_families.specs.{Product.IsProduct, Minimal.IsMinimal, Due.IsDueToProduct, Due.IsDueToMinimal}
use Rattle.tree_families.specs.{Due.IsDueToUnions, Recipe.alone}

-- the minimal sets of the product of two families
pub record IsLeastProduct (f g least : List (List ℕ)) : Type 0 where
  pub product : List (List ℕ)
  pub product_is : IsProduct f g product
  pub least_is : IsMinimal product least

-- due to the product, or to its minimal sets
pub data IsDueToLeastProduct : List (List ℕ) → List (List ℕ) → List (List ℕ) → Type 0 where
  due_to_product : {f g due : List (List ℕ)} → IsDueToProduct f g due → IsDueToLeastProduct f g due
  due_to_least : {f g product due : List (List ℕ)} → IsProduct f g product → IsDueToMinimal product due
      → IsDueToLeastProduct f g due

-- the family of the unit alone, or due to its unions with the families of the triggers
abbrev pub IsDueToUnit : ℕ → List (List (List ℕ)) → List (List ℕ) → Type 0
IsDueToUnit unit families due = (due ≡ alone unit) ⊎ IsDueToUnions (alone unit) families due
