-- Recipes step by step: what was made of the first families, and what the next step makes and may make
-- on the way.
use Rattle.std.specs.Prelude.{◌≡◌, ℕ, zero, suc, ◌+◌, ◌<◌, List, [], ◌∷◌, length, take, get_or}
use Rattle.std.proofs.Common.{refl, sym, ap, subst, arith}
use Rattle.zdd_families.specs.{Union.IsUnion, Product.IsProduct, Minimal.IsMinimal}
use Rattle.zdd_families.specs.Due.{IsDueToUnion, IsDueToProduct, IsDueToMinimal}
use Rattle.tree_families.specs.Recipe.{IsUnionOfAll, IsProductOfAll}
use Rattle.tree_families.specs.Due.{IsDueToUnions, next_union, later_union, IsDueToProducts, next_product, next_minimal}
use Rattle.tree_families.specs.Due.{later_product}

-- ---- one family more

pub take_after : {K : Type 0} (n : ℕ) (x : K) (xs : List K) → take (suc n + 1) (x ∷ xs) ≡ x ∷ take (n + 1) xs
take_after n x xs = ap (λ k. take k (x ∷ xs)) (let e : suc n + 1 ≡ suc (n + 1) = omega arith in e)

pub unions-more : (place : ℕ) (first : List (List ℕ)) (others : List (List (List ℕ))) (made next : List (List ℕ))
    → place < length others → IsUnionOfAll first (take place others) made → IsUnion made (get_or others place []) next
    → IsUnionOfAll first (take (place + 1) others) next
unions-more place first [] made next short is more_is = absurd (omega arith)
unions-more zero first (family ∷ others) made next short same more_is =
    (next, subst (λ q. IsUnion q family next) same more_is, refl)
unions-more (suc place) first (family ∷ others) made next short (union, is, rest) more_is =
    subst (λ q. IsUnionOfAll first q next) (sym (take_after place family others))
    (union, is, unions-more place union others made next (omega arith) rest more_is)

pub products-more : (place : ℕ) (first : List (List ℕ)) (others : List (List (List ℕ)))
    (made product next : List (List ℕ)) → place < length others → IsProductOfAll first (take place others) made
    → IsProduct made (get_or others place []) product → IsMinimal product next
    → IsProductOfAll first (take (place + 1) others) next
products-more place first [] made product next short is more_is least_is = absurd (omega arith)
products-more zero first (family ∷ others) made product next short same more_is least_is =
    (product, next, subst (λ q. IsProduct q family product) same more_is, least_is, refl)
products-more (suc place) first (family ∷ others) made product next short (made', least, is, minimal, rest) more_is
    least_is =
    subst (λ q. IsProductOfAll first q next) (sym (take_after place family others))
    (made', least, is, minimal, products-more place least others made product next (omega arith) rest more_is least_is)

-- ---- what the step is due to

pub due-to_next_union : (place : ℕ) (first : List (List ℕ)) (others : List (List (List ℕ))) (made due : List (List ℕ))
    → place < length others → IsUnionOfAll first (take place others) made
    → IsDueToUnion made (get_or others place []) due → IsDueToUnions first others due
due-to_next_union place first [] made due short is h = absurd (omega arith)
due-to_next_union zero first (family ∷ others) made due short same h =
    next_union (subst (λ q. IsDueToUnion q family due) same h)
due-to_next_union (suc place) first (family ∷ others) made due short (union, is, rest) h =
    later_union is (due-to_next_union place union others made due (omega arith) rest h)

pub due-to_next_product : (place : ℕ) (first : List (List ℕ)) (others : List (List (List ℕ))) (made due : List (List ℕ))
    → place < length others → IsProductOfAll first (take place others) made
    → IsDueToProduct made (get_or others place []) due → IsDueToProducts first others due
due-to_next_product place first [] made due short is h = absurd (omega arith)
due-to_next_product zero first (family ∷ others) made due short same h =
    next_product (subst (λ q. IsDueToProduct q family due) same h)
due-to_next_product (suc place) first (family ∷ others) made due short (product, least, is, minimal, rest) h =
    later_product is minimal (due-to_next_product place least others made due (omega arith) rest h)

pub due-to_next_minimal : (place : ℕ) (first : List (List ℕ)) (others : List (List (List ℕ)))
    (made product due : List (List ℕ)) → place < length others → IsProductOfAll first (take place others) made
    → IsProduct made (get_or others place []) product → IsDueToMinimal product due → IsDueToProducts first others due
due-to_next_minimal place first [] made product due short is more_is h = absurd (omega arith)
due-to_next_minimal zero first (family ∷ others) made product due short same more_is h =
    next_minimal (subst (λ q. IsProduct q family product) same more_is) h
due-to_next_minimal (suc place) first (family ∷ others) made product due short (made', least, is, minimal, rest) more_is
    h =
    later_product is minimal (due-to_next_minimal place least others made product due (omega arith) rest more_is h)
