-- Tests, maps and filters of a list pass through a map of its items.
use Rattle.std.proofs.Common.{◌≡◌, Bool, true, false, List, [], ◌∷◌, ◌++◌, cond, map, refl, sym, ap, ◌∙◌}
use Rattle.std.specs.Prelude.{filter, ◌||◌}
use Rattle.std.specs.List.{flat_map, list_any}
use Rattle.std.proofs.lemmas.List.{map-append}

-- a map gives nothing of nothing alone
pub map_none : {A B : Type 0} (f : A → B) (xs : List A) → map f xs ≡ [] → xs ≡ []
map_none f [] none = refl
map_none f (x ∷ xs) none = absurd (cc)

pub map_through : {A B C : Type 0} (f : B → C) (h : A → B) (g : A → C) → ((x : A) → f (h x) ≡ g x) → (xs : List A)
    → map f (map h xs) ≡ map g xs
map_through f h g same [] = refl
map_through f h g same (x ∷ xs) = ap (λ y. y ∷ map f (map h xs)) (same x)
    ∙ ap (λ l. g x ∷ l) (map_through f h g same xs)

pub filter_through : {A B : Type 0} (p : B → Bool) (q : A → Bool) (h : A → B) → ((x : A) → p (h x) ≡ q x)
    → (xs : List A) → filter p (map h xs) ≡ map h (filter q xs)
filter_through p q h same [] = refl
filter_through {A} {B} p q h same (x ∷ xs) =
    ap (λ l. cond (p (h x)) (h x ∷ l) l) (filter_through p q h same xs)
    ∙ ap (λ b. cond b (h x ∷ map h (filter q xs)) (map h (filter q xs))) (same x)
    ∙ split (q x)
  where
    split : (b : Bool) → cond b (h x ∷ map h (filter q xs)) (map h (filter q xs)) ≡ map h
        (cond b (x ∷ filter q xs) (filter q xs))
    split true = refl
    split false = refl

pub flat_map_through : {A B C D : Type 0} (f : B → List D) (h : A → B) (k : C → D) (g : A → List C)
    → ((x : A) → f (h x) ≡ map k (g x))
    → (xs : List A) → flat_map f (map h xs) ≡ map k (flat_map g xs)
flat_map_through f h k g same [] = refl
flat_map_through f h k g same (x ∷ xs) =
    ap (λ l. l ++ flat_map f (map h xs)) (same x)
    ∙ ap (λ l. map k (g x) ++ l) (flat_map_through f h k g same xs)
    ∙ sym (map-append k (g x) (flat_map g xs))

pub any_through : {A B : Type 0} (p : B → Bool) (h : A → B) (q : A → Bool) → ((x : A) → p (h x) ≡ q x) → (xs : List A)
    → list_any p (map h xs) ≡ list_any q xs
any_through p h q same [] = refl
any_through p h q same (x ∷ xs) = ap (λ b. b || list_any p (map h xs)) (same x)
    ∙ ap (λ b. q x || b) (any_through p h q same xs)
