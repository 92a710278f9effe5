-- What follows from the definitions of `specs/Counting`.
use Rattle.std.specs.Prelude.{◌≡◌, ◌≢◌, ◌↔◌, suc, ◌≤◌, List, [], ◌∷◌, map, length, Contains}
use Rattle.std.proofs.Common.{refl, sym, ◌∙◌, ap, subst, inl, inr, arith}
use Rattle.unit_sets.proofs.Sorted.{Contains-cons_first, Contains-cons_other, Contains-cons_cases, Contains-nil}
use Rattle.zdd_families.proofs.CutsLemmas.{each-contains, each-from_contains}
use Rattle.zdd_families.specs.Counting.{EachOnce}

-- a list, taken apart at one of its members
record Parted {K : Type 0} (xs : List K) (x : K) : Type 0 where
  rest : List K
  fewer : length xs ≡ suc (length rest)
  others : (y : K) → x ≢ y → Contains xs y → Contains rest y

parted_later : {K : Type 0} {first x : K} {xs : List K} → Parted xs x → Parted (first ∷ xs) x
parted_later {first} {xs} parted = record {
  rest = first ∷ parted.rest;
  fewer = ap (λ n. suc n) parted.fewer;
  others = λ y differ has. elim (Contains-cons_cases _ _ _ has) [
    | inl same ↦ subst (Contains (first ∷ parted.rest)) same (Contains-cons_first _ _)
    | inr later ↦ Contains-cons_other _ _ _ (parted.others y differ later)
  ];
}

parted_here : {K : Type 0} {first x : K} {xs : List K} → first ≡ x → Parted (first ∷ xs) x
parted_here {first} {xs} same = record {
  rest = xs;
  fewer = refl;
  others = λ y differ has. elim (Contains-cons_cases _ _ _ has) [
    | inl same' ↦ absurd (differ (sym same ∙ same'))
    | inr later ↦ later
  ];
}

parted_at : {K : Type 0} (xs : List K) {x : K} → Contains xs x → Parted xs x
parted_at [] {x} has = Contains-nil _ has
parted_at (first ∷ xs) {x} has =
    elim (Contains-cons_cases _ _ _ has) [
      | inl same ↦ parted_here same
      | inr later ↦ parted_later (parted_at xs later)
    ]

pub each_once-length : {K : Type 0} (xs ys : List K) → EachOnce xs → ((x : K) → Contains xs x → Contains ys x)
    → length xs ≤ length ys
each_once-length [] ys once within = omega arith
each_once-length (x ∷ xs) ys once within =
    let parted : Parted ys x = parted_at ys (within x (Contains-cons_first _ _)) in
    let fewer : length xs ≤ length parted.rest =
    each_once-length xs parted.rest once.1
    (λ y has. parted.others y (each-contains _ _ _ once.0 has)
    (within y (Contains-cons_other _ _ _ has))) in
    let e : length ys ≡ suc (length parted.rest) = parted.fewer in
    omega (arith, e, fewer)

-- two lists without repeats and with the same members are equally long
pub same_length : {K : Type 0} (xs ys : List K) → EachOnce xs → EachOnce ys → ((x : K) → Contains xs x ↔ Contains ys x)
    → length xs ≡ length ys
same_length xs ys once once' same =
    let h : length xs ≤ length ys = each_once-length xs ys once (λ x has. (same x).0 has) in
    let k : length ys ≤ length xs = each_once-length ys xs once' (λ x has. (same x).1 has) in
    omega (arith, h, k)

-- ---- a function of each member

pub map-contains : {K J : Type 0} (f : K → J) (xs : List K) (x : K) → Contains xs x → Contains (map f xs) (f x)
map-contains f [] x has = Contains-nil x has
map-contains f (first ∷ xs) x has =
    elim (Contains-cons_cases first x xs has) [
      | inl same ↦ subst (λ q. Contains (map f (first ∷ xs)) (f q)) same (Contains-cons_first (f first) (map f xs))
      | inr later ↦ Contains-cons_other (f first) (f x) (map f xs) (map-contains f xs x later)
    ]

pub record IsImage {K J : Type 0} (f : K → J) (xs : List K) (y : J) : Type 0 where
  pub of : K
  pub has : Contains xs of
  pub is : f of ≡ y

pub IsImage-from_map : {K J : Type 0} {f : K → J} (xs : List K) (y : J) → Contains (map f xs) y → IsImage f xs y
IsImage-from_map [] y has = Contains-nil _ has
IsImage-from_map {f} (first ∷ xs) y has =
    elim (Contains-cons_cases _ _ _ has) [
      | inl same ↦ record { of = first; has = Contains-cons_first _ _; is = same }
      | inr later ↦
          let image : IsImage f xs y = IsImage-from_map xs y later in
          record { of = image.of; has = Contains-cons_other _ _ _ image.has; is = image.is }
    ]

-- a function that tells the members apart leaves each once
pub each_once-map : {K J : Type 0} (f : K → J) (xs : List K)
    → ((a b : K) → Contains xs a → Contains xs b → f a ≡ f b → a ≡ b) → EachOnce xs → EachOnce (map f xs)
each_once-map f [] apart once = tt
each_once-map f (x ∷ xs) apart once = (
  each-from_contains _ _ (λ y has same.
      let image = IsImage-from_map {f = f} xs y has in
      each-contains _ _ _ once.0 image.has
      (apart x image.of (Contains-cons_first _ _) (Contains-cons_other _ _ _ image.has)
      (same ∙ sym image.is))),
  each_once-map f xs (λ a b in_a in_b. apart a b (Contains-cons_other _ _ _ in_a) (Contains-cons_other _ _ _ in_b))
      once.1,
)
