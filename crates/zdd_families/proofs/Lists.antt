-- Lists in strict order that are joined or mapped.
use Rattle.std.specs.Prelude.{◌≡◌, Bool, true, false, List, [], ◌∷◌, ◌++◌, map, filter}
use Rattle.std.specs.{List.AllByRecursion, List.Sorted.IsStrictlySortedBy, declared.cmp.Ordering.Ordering}
use Rattle.std.specs.{declared.cmp.Ordering.TheVariants.Less}
use Rattle.std.proofs.Common.{refl, ◌∙◌, ap}
use Rattle.std.proofs.lemmas.Bool.{cond-true, cond-false}

pub each-append : {K : Type 0} (P : K → Type 0) (xs ys : List K) → AllByRecursion P xs → AllByRecursion P ys
    → AllByRecursion P (xs ++ ys)
each-append P [] ys all all' = all'
each-append P (x ∷ xs) ys all all' = (all.0, each-append P xs ys all.1 all')

pub each-map : {K J : Type 0} (P : K → Type 0) (Q : J → Type 0) (f : K → J) (xs : List K) → ((x : K) → P x → Q (f x))
    → AllByRecursion P xs → AllByRecursion Q (map f xs)
each-map P Q f [] step all = tt
each-map P Q f (x ∷ xs) step all = (step x all.0, each-map P Q f xs step all.1)

pub each-weaker : {K : Type 0} (P Q : K → Type 0) (xs : List K) → ((x : K) → P x → Q x) → AllByRecursion P xs
    → AllByRecursion Q xs
each-weaker P Q [] step all = tt
each-weaker P Q (x ∷ xs) step all = (step x all.0, each-weaker P Q xs step all.1)

-- Two lists in strict order stay so one after the other, where each of the first is below each of the second.
pub sorted-append : {K : Type 0} (R : K → K → Ordering) (xs ys : List K) → IsStrictlySortedBy R xs
    → IsStrictlySortedBy R ys → AllByRecursion (λ x. AllByRecursion (λ y. R x y ≡ Less) ys) xs
    → IsStrictlySortedBy R (xs ++ ys)
unfolding IsStrictlySortedBy
sorted-append R [] ys s t below = t
sorted-append R (x ∷ xs) ys s t below =
    (each-append _ _ _ s.0 below.0, sorted-append R xs ys s.1 t below.1)

-- A list in strict order stays so under a function that keeps the order.
pub sorted-map : {K : Type 0} (R : K → K → Ordering) (f : K → K) (xs : List K)
    → ((x y : K) → R x y ≡ Less → R (f x) (f y) ≡ Less) → IsStrictlySortedBy R xs → IsStrictlySortedBy R (map f xs)
unfolding IsStrictlySortedBy
sorted-map R f [] keeps s = tt
sorted-map R f (x ∷ xs) keeps s =
    (each-map (λ y. R x y ≡ Less) (λ y. R (f x) y ≡ Less) f xs (keeps x) s.0, sorted-map R f xs keeps s.1)

-- what passes a test is all of a list whose members all pass, and nothing of one whose members all fail
pub filter-all : {K : Type 0} (test : K → Bool) (xs : List K) → AllByRecursion (λ x. test x ≡ true) xs
    → filter test xs ≡ xs
filter-all test [] all = refl
filter-all test (x ∷ xs) all =
    cond-true _ _ _ all.0 ∙ ap (λ q. x ∷ q) (filter-all _ _ all.1)

pub filter-none : {K : Type 0} (test : K → Bool) (xs : List K) → AllByRecursion (λ x. test x ≡ false) xs
    → filter test xs ≡ []
filter-none test [] all = refl
filter-none test (x ∷ xs) all =
    cond-false _ _ _ all.0 ∙ filter-none test xs all.1
