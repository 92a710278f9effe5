-- Lists in strict order, by whatever order: the members decide the list.
use Rattle.std.specs.Prelude.{◌≡◌, ℕ, ◌⊎◌, List, [], ◌∷◌, ◌++◌, take, slice_get, All, Contains, Some, zero, suc}
use Rattle.std.specs.{Cmp.IsTotalOrder, List.AllByRecursion, List.Sorted.IsStrictlySortedBy}
use Rattle.std.specs.{declared.cmp.Ordering.Ordering, declared.cmp.Ordering.TheVariants.Less}
use Rattle.std.proofs.Common.{refl, sym, ap, subst, inl, inr, arith}
use Rattle.std.proofs.lemmas.Cmp.{tied_itself}
use Rattle.std.proofs.lemmas.List.Elements.{All-from_recursion, All-contains, All-head, All-tail}

-- a member of a list is its first, or a member of the others
pub Contains-cons_cases : {X : Type 0} (x z : X) (xs : List X) → Contains (x ∷ xs) z → (x ≡ z) ⊎ Contains xs z
Contains-cons_cases x z xs (zero, short, same) = inl same
Contains-cons_cases x z xs (suc k, short, same) = inr (k, omega arith, same)

pub Contains-cons_first : {X : Type 0} (x : X) (xs : List X) → Contains (x ∷ xs) x
Contains-cons_first x xs = (zero, omega arith, refl)

pub Contains-cons_other : {X : Type 0} (x z : X) (xs : List X) → Contains xs z → Contains (x ∷ xs) z
Contains-cons_other x z xs (k, short, same) = (suc k, omega arith, same)

pub Contains-nil : {X : Type 0} {G : Type 0} (z : X) → Contains [] z → G
Contains-nil z (k, short, same) = absurd (omega arith)

-- what holds of each member and of one more holds of each with that one at the end
pub all-push : {K : Type 0} (P : K → Type 0) (xs : List K) (last : K) → AllByRecursion P xs → P last
    → AllByRecursion P (xs ++ last ∷ [])
all-push P [] last all one = (one, tt)
all-push P (x ∷ xs) last all one = (all.0, all-push P xs last all.1 one)

-- A list in strict order stays so with one more at its end that all others are below.
pub sorted-push : {K : Type 0} (R : K → K → Ordering) (xs : List K) (last : K) → IsStrictlySortedBy R xs
    → AllByRecursion (λ x. R x last ≡ Less) xs → IsStrictlySortedBy R (xs ++ last ∷ [])
unfolding IsStrictlySortedBy
sorted-push R [] last s below = (tt, tt)
sorted-push R (x ∷ xs) last s below =
    (all-push (λ y. R x y ≡ Less) xs last s.0 below.0, sorted-push R xs last s.1 below.1)

module _ {K : Type 0} {R : K → K → Ordering} (o : IsTotalOrder R) where
  -- what follows in the order is not below
  pub not_both_below : {G : Type 0} (x y : K) → R x y ≡ Less → R y x ≡ Less → G
  not_both_below x y p q = let e = o.antisymm x y in absurd cc

  pub not_below_itself : {G : Type 0} (x : K) → R x x ≡ Less → G
  not_below_itself x p = let e = tied_itself o x in absurd cc

  -- a list in strict order has its first below each other member
  pub first_below : (x z : K) (xs : List K) → IsStrictlySortedBy R (x ∷ xs) → Contains xs z → R x z ≡ Less
  unfolding IsStrictlySortedBy
  first_below x z xs s h = All-contains (λ y. R x y ≡ Less) xs z (All-from_recursion (λ y. R x y ≡ Less) xs s.0) h

  same_first : {x y : K} (xs ys : List K) → IsStrictlySortedBy R (x ∷ xs) → IsStrictlySortedBy R (y ∷ ys)
      → Contains (x ∷ xs) y → Contains (y ∷ ys) x → x ≡ y
  same_first {x} {y} xs ys s t in_xs in_ys =
      elim (Contains-cons_cases x y xs in_xs) [
        | inl same ↦ same
        | inr later ↦ elim (Contains-cons_cases y x ys in_ys) [
          | inl same ↦ sym same
          | inr later' ↦ not_both_below x y (first_below x y xs s later) (first_below y x ys t later')
        ]
      ]

  tail_members : (x : K) (xs ys : List K) → IsStrictlySortedBy R (x ∷ xs)
      → ((z : K) → Contains (x ∷ xs) z → Contains (x ∷ ys) z) → (z : K) → Contains xs z → Contains ys z
  tail_members x xs ys s within z h =
      elim (Contains-cons_cases x z ys (within z (Contains-cons_other x z xs h))) [
        | inl same ↦ let p : R x x ≡ Less =
            subst (λ (q : K). R x q ≡ Less) (sym same) (first_below x z xs s h) in not_below_itself x p
        | inr later ↦ later
      ]

  -- Two lists in the same strict order with the same members are equal.
  pub same_from_members : (xs ys : List K) → IsStrictlySortedBy R xs → IsStrictlySortedBy R ys
      → ((z : K) → Contains xs z → Contains ys z) → ((z : K) → Contains ys z → Contains xs z) → xs ≡ ys
  unfolding IsStrictlySortedBy
  same_from_members [] [] s t to from = refl
  same_from_members [] (y ∷ ys) s t to from = Contains-nil y (from y (Contains-cons_first y ys))
  same_from_members (x ∷ xs) [] s t to from = Contains-nil x (to x (Contains-cons_first x xs))
  same_from_members (x ∷ xs) (y ∷ ys) s t to from =
      let same : x ≡ y = same_first xs ys s t (from y (Contains-cons_first y ys)) (to x (Contains-cons_first x xs)) in
      let t' : IsStrictlySortedBy R (x ∷ ys) = subst (λ (q : K). IsStrictlySortedBy R (q ∷ ys)) (sym same) t in
      let to' : (z : K) → Contains (x ∷ xs) z → Contains (x ∷ ys) z =
      λ z h. subst (λ (q : K). Contains (q ∷ ys) z) (sym same) (to z h) in
      let from' : (z : K) → Contains (x ∷ ys) z → Contains (x ∷ xs) z =
      λ z h. from z (subst (λ (q : K). Contains (q ∷ ys) z) same h) in
      let rest : xs ≡ ys =
      same_from_members xs ys s.1 t.1 (tail_members x xs ys s to') (tail_members x ys xs t' from') in
      subst (λ (q : K). x ∷ xs ≡ q ∷ ys) same (ap (λ q. x ∷ q) rest)

all-take : {K : Type 0} (P : K → Type 0) (n : ℕ) (xs : List K) → AllByRecursion P xs → AllByRecursion P (take n xs)
all-take P zero xs all = tt
all-take P (suc n) [] all = tt
all-take P (suc n) (x ∷ xs) all = (all.0, all-take P n xs all.1)

-- A front of a list in strict order is in that order.
pub sorted-take : {K : Type 0} (R : K → K → Ordering) (n : ℕ) (xs : List K) → IsStrictlySortedBy R xs
    → IsStrictlySortedBy R (take n xs)
unfolding IsStrictlySortedBy
sorted-take R zero xs s = tt
sorted-take R (suc n) [] s = tt
sorted-take R (suc n) (x ∷ xs) s = (all-take (λ y. R x y ≡ Less) n xs s.0, sorted-take R n xs s.1)

-- what holds of each member holds of the one at a place
pub All-slice_get : {K : Type 0} (P : K → Type 0) (xs : List K) (i : ℕ) (x : K) → All P xs → slice_get xs i ≡ Some x
    → P x
All-slice_get P [] i x all h = absurd cc
All-slice_get P (y ∷ ys) zero x all h = let same : y ≡ x = cc in subst P same (All-head P y ys all)
All-slice_get P (y ∷ ys) (suc i) x all h = All-slice_get P ys i x (All-tail P y ys all) h
