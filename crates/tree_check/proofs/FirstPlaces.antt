-- The first place that the items of a list give, one item after another.
use Rattle.std.proofs.Common.{◌≡◌, ℕ, suc, arith, ◌+◌, ◌-◌, ◌<◌, ◌≤◌, Bool, false, List, [], ◌∷◌, ◌++◌, length}
use Rattle.std.proofs.Common.{drop, map, get_or, refl, sym, ◌∙◌, ap}
use Rattle.std.specs.Prelude.{Option, Some, None, filter}
use Rattle.std.specs.List.{flat_map}
use Rattle.std.proofs.lemmas.List.{at_drop_more, drop_all}
use Rattle.fault_words.specs.declared.place.Place.{Place}
use Rattle.tree_check.specs.Classes.{first}

pub first_of_more : (xs ys : List Place) → first xs ≡ None → first (xs ++ ys) ≡ first ys
first_of_more [] ys none = refl
first_of_more (x ∷ xs) ys none = absurd cc

pub first_of_some : (xs ys : List Place) (place : Place) → first xs ≡ Some place → first (xs ++ ys) ≡ Some place
first_of_some [] ys place some = absurd cc
first_of_some (x ∷ xs) ys place some = some

module _ {X : Type 0} (xs : List X) (i : ℕ) (x : X) where
  pub drop_at : i < length xs → x ≡ get_or xs i x → drop i xs ≡ x ∷ drop (i + 1) xs
  drop_at short is = at_drop_more (λ ys. ys) xs i x short ∙ ap (λ y. y ∷ drop (i + 1) xs) (sym is)

  -- places of each item
  module _ (f : X → List Place) where
    pub none_of : i < length xs → x ≡ get_or xs i x → first (f x) ≡ None
        → first (flat_map f (drop (i + 1) xs)) ≡ first (flat_map f (drop i xs))
    none_of short is none =
        sym (ap (λ ys. first (flat_map f ys)) (drop_at short is)
        ∙ first_of_more (f x) (flat_map f (drop (i + 1) xs)) none)

    pub some_of : i < length xs → x ≡ get_or xs i x → (place : Place) → first (f x) ≡ Some place
        → first (flat_map f (drop i xs)) ≡ Some place
    some_of short is place some =
        ap (λ ys. first (flat_map f ys)) (drop_at short is)
        ∙ first_of_some (f x) (flat_map f (drop (i + 1) xs)) place some

  -- the places of those items that pass a test
  module _ (place_of : X → Place) (test : X → Bool) where
    pub none_at : i < length xs → x ≡ get_or xs i x → test x ≡ false
        → first (map place_of (filter test (drop (i + 1) xs))) ≡ first (map place_of (filter test (drop i xs)))
    none_at short is fails = sym (ap (λ ys. first (map place_of (filter test ys))) (drop_at short is) ∙ rw fails refl)

pub none_behind : {X : Type 0} (place_of : X → Place) (xs : List X) (n : ℕ) → length xs ≤ n
    → first (map place_of (drop n xs)) ≡ None
none_behind place_of xs n long = ap (λ ys. first (map place_of ys)) (drop_all n xs long)

pub some_behind : {X : Type 0} (place_of : X → Place) (xs : List X) (n : ℕ) (x : X) → n < length xs
    → first (map place_of (drop n xs)) ≡ Some (place_of (get_or xs n x))
some_behind place_of xs n x short = ap (λ ys. first (map place_of ys)) (at_drop_more (λ ys. ys) xs n x short)

-- where parts of the items are passed over: an item with one part, and an item with none
module _ {X Y : Type 0} (parts : X → List Y) (place_of : Y → Place) (xs : List X) (i : ℕ) (x : X) (n : ℕ) where
  pub passed_one : i < length xs → x ≡ get_or xs i x → {y : Y} → parts x ≡ y ∷ [] → (n ≡ 0 → ⊥) → {m : ℕ} → m ≡ n - 1
      → first (map place_of (drop m (flat_map parts (drop (i + 1) xs))))
      ≡ first (map place_of (drop n (flat_map parts (drop i xs))))
  passed_one short is one more {m} less =
      let suc_m : n ≡ suc m = omega arith in
      sym (ap (λ ys. first (map place_of (drop n (flat_map parts ys)))) (drop_at xs i x short is)
      ∙ rw (one, suc_m) refl)

  pub passed_none : i < length xs → x ≡ get_or xs i x → parts x ≡ [] → {m : ℕ} → m ≡ n
      → first (map place_of (drop m (flat_map parts (drop (i + 1) xs))))
      ≡ first (map place_of (drop n (flat_map parts (drop i xs))))
  passed_none short is none same =
      sym (ap (λ ys. first (map place_of (drop n (flat_map parts ys)))) (drop_at xs i x short is)
      ∙ rw (none, same) refl)

pub none_from_no_some : (o : Option Place) → ((place : Place) → o ≡ Some place → ⊥) → o ≡ None
none_from_no_some None other = refl
none_from_no_some (Some place) other = absurd (other place refl)
