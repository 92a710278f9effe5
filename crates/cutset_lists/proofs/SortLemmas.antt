-- A list sorted in the order of cut lists, without repeats.
use Rattle.std.specs.Prelude.{◌≡◌, ℕ, Bool, true, false, ◌||◌, List, [], ◌∷◌, map, All, Contains}
use Rattle.std.specs.List.{list_any, list_all, dedup, dedup_from, AllByRecursion}
use Rattle.std.specs.List.Sorted.{IsPermutation, IsSorted, IsStrictlySortedBy}
use Rattle.std.specs.{Cmp.on_total, declared.cmp.Ordering.Ordering}
use Rattle.std.specs.Ordering.{on, eq_by_cmp, is_eq}
use Rattle.std.specs.declared.cmp.Ordering.TheVariants.{Less, Equal, Greater}
use Rattle.std.proofs.Common.{refl, sym, ◌∙◌, ap, subst}
use Rattle.std.proofs.{lemmas.Bool.cond_both, lemmas.List.Filters.All-dedup, lemmas.List.Kept.IsStrictlySortedBy-dedup}
use Rattle.std.proofs.{lemmas.List.Sorted.All-permutation, lemmas.List.Sorted.list_any-IsPermutation}
use Rattle.std.proofs.lemmas.List.Elements.{All-contains_itself, All-map, All-nil, All-cons, All-head, All-tail}
use Rattle.unit_sets.specs.{CutOrder.cut_cmp, CutOrder.cut_cmp_total, UnitList.some_within}
use Rattle.unit_sets.proofs.CutOrderLemmas.{cut_cmp-same}
use Rattle.cutset_lists.specs.Sets.{IsSortedFrom}

-- ---- what a repeat does not change

or_same : (a b : Bool) {c : Bool} (d : Bool) → a ≡ b → c ≡ (b || d) → c ≡ (b || (a || d))
or_same true true d e f = f
or_same false false d e f = f
or_same true false d e f = absurd cc
or_same false true d e f = absurd cc

module _ {X : Type 0} (same : X → X → Bool) (p : X → Bool) (alike : (x y : X) → same x y ≡ true → p x ≡ p y) where
  any_dedup_from : (k : X) (xs : List X) → list_any p (dedup_from same k xs) ≡ (p k || list_any p xs)
  any_dedup_from k [] = refl
  any_dedup_from k (x ∷ xs) =
      cond_both (same x k) (dedup_from same k xs) (k ∷ dedup_from same x xs)
      (λ ys. list_any p ys ≡ (p k || (p x || list_any p xs)))
      (λ yes. or_same (p x) (p k) (list_any p xs) (alike x k yes) (any_dedup_from k xs))
      (λ no. ap (λ b. p k || b) (any_dedup_from x xs))

  any_dedup : (xs : List X) → list_any p (dedup same xs) ≡ list_any p xs
  any_dedup [] = refl
  any_dedup (x ∷ xs) = any_dedup_from x xs

any_map : {X Y : Type 0} (f : X → Y) (p : Y → Bool) (xs : List X) → list_any p (map f xs) ≡ list_any (λ x. p (f x)) xs
any_map f p [] = refl
any_map f p (x ∷ xs) = ap (λ b. p (f x) || b) (any_map f p xs)

all_from_map : {X Y : Type 0} (f : X → Y) (P : Y → Type 0) (xs : List X) → All P (map f xs) → All (λ x. P (f x)) xs
all_from_map f P [] all = All-nil _
all_from_map f P (x ∷ xs) all =
    All-cons (λ y. P (f y)) x xs (All-head P (f x) (map f xs) all)
    (all_from_map f P xs (All-tail P (f x) (map f xs) all))

-- ---- order by a key

all_map : {X Y : Type 0} (f : X → Y) (P : Y → Type 0) (xs : List X) → AllByRecursion (λ x. P (f x)) xs
    → AllByRecursion P (map f xs)
all_map f P [] all = tt
all_map f P (x ∷ xs) all = (all.0, all_map f P xs all.1)

sorted_map : {X Y : Type 0} (f : X → Y) (R : Y → Y → Ordering) (xs : List X) → IsStrictlySortedBy (on f R) xs
    → IsStrictlySortedBy R (map f xs)
unfolding IsStrictlySortedBy
sorted_map f R [] s = tt
sorted_map f R (x ∷ xs) s = (all_map f (λ y. R (f x) y ≡ Less) xs s.0, sorted_map f R xs s.1)

-- ---- sorted and without repeats

equal_by_test : (o : Ordering) → is_eq o ≡ true → o ≡ Equal
equal_by_test Less h = absurd cc
equal_by_test Equal h = refl
equal_by_test Greater h = absurd cc

module _ {X : Type 0} (units : X → List ℕ) {sets : List (List ℕ)} {rows sorted : List X}
    (rows_are : map units rows ≡ sets) (moved : IsPermutation rows sorted) where
  order : X → X → Ordering
  order = on units cut_cmp

  sorted_hits : (within : ℕ → Bool) → some_within (map units (dedup (eq_by_cmp (on units cut_cmp)) sorted)) within
      ≡ some_within sets within
  sorted_hits within =
      let p : X → Bool = λ x. list_all within (units x) in
      any_map units (list_all within) (dedup (eq_by_cmp (on units cut_cmp)) sorted)
      ∙ any_dedup (eq_by_cmp (on units cut_cmp)) p (λ x y yes.
      ap (list_all within) (cut_cmp-same (units x) (units y) (equal_by_test (cut_cmp (units x) (units y)) yes)))
      sorted
      ∙ sym (list_any-IsPermutation p rows sorted moved)
      ∙ sym (any_map units (list_all within) rows)
      ∙ ap (λ s. some_within s within) rows_are

  sorted_members : All (Contains sets) (map units (dedup (eq_by_cmp (on units cut_cmp)) sorted))
  sorted_members =
      All-map (Contains sets) units (dedup (eq_by_cmp (on units cut_cmp)) sorted)
      (All-dedup (eq_by_cmp (on units cut_cmp)) (λ x. Contains sets (units x)) sorted
      (All-permutation (λ x. Contains sets (units x)) rows sorted moved
      (all_from_map units (Contains sets) rows (subst (All (Contains sets)) (sym rows_are)
      (All-contains_itself sets)))))

  pub IsSortedFrom-dedup : IsSorted (on units cut_cmp) sorted
      → IsSortedFrom sets (map units (dedup (eq_by_cmp (on units cut_cmp)) sorted))
  IsSortedFrom-dedup s = record {
    some_within = sorted_hits;
    members = sorted_members;
    ordered =
        sorted_map units cut_cmp (dedup (eq_by_cmp (on units cut_cmp)) sorted)
        (IsStrictlySortedBy-dedup (on_total units cut_cmp_total) (λ x y. refl) sorted s);
  }
