-- Products one after another, each with its minimal sets alone.
use Rattle.std.proofs.Common.{ℕ, ◌+◌, ◌<◌, List, [], get_or, take, length}
use Rattle.tree_families.specs.{Due.IsDueToProducts, Recipe.IsProductOfAll}
use Rattle.tree_families.proofs.DueSteps.{products-more, due-to_next_product, due-to_next_minimal}
use Rattle.zdd_nodes.specs.Steps.{IsLeastProduct, IsDueToLeastProduct, due_to_product, due_to_least}

pub least_products-more : (place : ℕ) (first : List (List ℕ)) (others : List (List (List ℕ)))
    (made next : List (List ℕ)) → place < length others → IsProductOfAll first (take place others) made
    → IsLeastProduct made (get_or others place []) next → IsProductOfAll first (take (place + 1) others) next
least_products-more place first others made next short is least =
    products-more place first others made least.product next short is least.product_is least.least_is

pub due-to_next_least_product : (place : ℕ) (first : List (List ℕ)) (others : List (List (List ℕ)))
    (made due : List (List ℕ)) → place < length others → IsProductOfAll first (take place others) made
    → IsDueToLeastProduct made (get_or others place []) due → IsDueToProducts first others due
due-to_next_least_product place first others made due short is (due_to_product h) =
    due-to_next_product place first others made due short is h
due-to_next_least_product place first others made due short is (due_to_least {product = product} product_is h) =
    due-to_next_minimal place first others made product due short is product_is h
