-- How two rising rows are merged into one.
use Rattle.std.specs.Prelude.{◌≡◌, ℕ, ◌+◌, ◌<◌, Bool, true, false, ◌&&◌, List, [], ◌∷◌, ◌++◌, length, drop}
use Rattle.std.specs.Prelude.{get_or}
use Rattle.std.specs.{List.list_all, List.AllByRecursion, List.Sorted.IsStrictlySortedBy, Ordering.nat_cmp}
use Rattle.std.specs.{declared.cmp.Ordering.TheVariants.Less}
use Rattle.std.proofs.Common.{refl, sym, ◌∙◌, ap, subst, add-one, append_assoc, arith, drop-cons}
use Rattle.std.proofs.{lemmas.Bool.Decides.nat_tests, lemmas.List.Folds.list_all-append, lemmas.Cmp.nat_cmp_total}
use Rattle.std.proofs.{lemmas.List.get_or_default}
use Rattle.unit_sets.specs.UnitList.{IsRising}

-- what was merged so far, before the rests of both rows
pub record IsMerging (left right : List ℕ) (i j : ℕ) (out : List ℕ) : Type 0 where
  pub within : (within : ℕ → Bool) → (list_all within out
      && (list_all within (drop i left) && list_all within (drop j right)))
      ≡ (list_all within left && list_all within right)
  pub left_rises : IsRising left → IsRising right → IsRising (out ++ drop i left)
  pub right_rises : IsRising left → IsRising right → IsRising (out ++ drop j right)

-- the row before its item at a place, and from there on
at_place : (row : List ℕ) (i : ℕ) → i < length row → drop i row ≡ get_or row i 0 ∷ drop (i + 1) row
at_place row i short = drop-cons row i 0 short ∙ ap (λ n. get_or row i 0 ∷ drop n row) (sym (add-one i))

all_below : (x y : ℕ) (ys : List ℕ) → nat_cmp x y ≡ Less → AllByRecursion (λ z. nat_cmp y z ≡ Less) ys
    → AllByRecursion (λ z. nat_cmp x z ≡ Less) ys
all_below x y [] less all = tt
all_below x y (z ∷ zs) less all = (nat_cmp_total.trans x y z less all.0, all_below x y zs less all.1)

-- what holds of each of two lists that begin alike
all_both : (P : ℕ → Type 0) (out xs ys : List ℕ) (x : ℕ) → AllByRecursion P (out ++ x ∷ xs)
    → AllByRecursion P (out ++ ys) → AllByRecursion P ((out ++ x ∷ []) ++ ys)
all_both P [] xs ys x l r = (l.0, r)
all_both P (o ∷ out) xs ys x l r = (l.0, all_both P out xs ys x l.1 r.1)

-- an item that is below what follows in one row goes before it
rises_between : (out xs ys : List ℕ) (x y : ℕ) → nat_cmp x y ≡ Less → IsRising (out ++ x ∷ xs)
    → IsRising (out ++ y ∷ ys) → IsRising ((out ++ x ∷ []) ++ y ∷ ys)
unfolding IsStrictlySortedBy
rises_between [] xs ys x y less l r = ((less, all_below x y ys less r.0), r)
rises_between (o ∷ out) xs ys x y less l r =
    (all_both (λ z. nat_cmp o z ≡ Less) out xs (y ∷ ys) x l.0 r.0, rises_between out xs ys x y less l.1 r.1)

front_rises : (out xs : List ℕ) (x : ℕ) → IsRising (out ++ x ∷ xs) → IsRising ((out ++ x ∷ []) ++ xs)
front_rises out xs x h = subst IsRising (sym (append_assoc out (x ∷ []) xs)) h

all_front : (P : ℕ → Type 0) (out xs : List ℕ) (x : ℕ) → AllByRecursion P (out ++ x ∷ xs)
    → AllByRecursion P ((out ++ x ∷ []) ++ [])
all_front P [] xs x h = (h.0, tt)
all_front P (o ∷ out) xs x h = (h.0, all_front P out xs x h.1)

take_left : (o x a r : Bool) → ((o && (x && true)) && (a && r)) ≡ (o && ((x && a) && r))
take_left true true a r = refl
take_left true false a r = refl
take_left false x a r = refl

take_right : (o y a r : Bool) → ((o && (y && true)) && (a && r)) ≡ (o && (a && (y && r)))
take_right true true a r = refl
take_right true false true r = refl
take_right true false false r = refl
take_right false y a r = refl

less : (x y : ℕ) → x < y → nat_cmp x y ≡ Less
less x y h = grind (arith, nat_tests)

module _ {left right : List ℕ} {i j : ℕ} {out : List ℕ} (at_left : i < length left) (at_right : j < length right)
    (before : IsMerging left right i j out) where
  L : drop i left ≡ get_or left i 0 ∷ drop (i + 1) left
  L = at_place left i at_left

  R : drop j right ≡ get_or right j 0 ∷ drop (j + 1) right
  R = at_place right j at_right

  rising_left : IsRising left → IsRising right → IsRising (out ++ get_or left i 0 ∷ drop (i + 1) left)
  rising_left l r = subst (λ xs. IsRising (out ++ xs)) L (before.left_rises l r)

  rising_right : IsRising left → IsRising right → IsRising (out ++ get_or right j 0 ∷ drop (j + 1) right)
  rising_right l r = subst (λ xs. IsRising (out ++ xs)) R (before.right_rises l r)

  within_before : (within : ℕ → Bool) → (list_all within out
      && (list_all within (get_or left i 0 ∷ drop (i + 1) left)
      && list_all within (get_or right j 0 ∷ drop (j + 1) right))) ≡ (list_all within left && list_all within right)
  within_before within =
      ap (λ b. list_all within out && (list_all within b && list_all within (get_or right j 0 ∷ drop (j + 1) right)))
      (sym L)
      ∙ ap (λ b. list_all within out && (list_all within (drop i left) && list_all within b)) (sym R)
      ∙ before.within within

  pub takes_left : get_or left i 0 < get_or right j 0 → IsMerging left right (i + 1) j (out ++ get_or left i 0 ∷ [])
  takes_left below =
      let x : ℕ = get_or left i 0 in
      let y : ℕ = get_or right j 0 in
      record {
        within = λ within.
            ap (λ b. b && (list_all within (drop (i + 1) left) && list_all within (drop j right)))
            (list_all-append within out (x ∷ []))
            ∙ ap (λ b. (list_all within out && (within x && true))
            && (list_all within (drop (i + 1) left) && list_all within b)) R
            ∙ take_left (list_all within out) (within x) (list_all within (drop (i + 1) left))
            (list_all within (y ∷ drop (j + 1) right))
            ∙ within_before within;
        left_rises = λ l r. front_rises out (drop (i + 1) left) x (rising_left l r);
        right_rises = λ l r.
            subst (λ ys. IsRising ((out ++ x ∷ []) ++ ys)) (sym R)
            (rises_between out (drop (i + 1) left) (drop (j + 1) right) x y (less x y below) (rising_left l r)
            (rising_right l r));
      }

  pub takes_right : get_or right j 0 < get_or left i 0 → IsMerging left right i (j + 1) (out ++ get_or right j 0 ∷ [])
  takes_right below =
      let x : ℕ = get_or left i 0 in
      let y : ℕ = get_or right j 0 in
      record {
        within = λ within.
            ap (λ b. b && (list_all within (drop i left) && list_all within (drop (j + 1) right)))
            (list_all-append within out (y ∷ []))
            ∙ ap (λ b. (list_all within out && (within y && true))
            && (list_all within b && list_all within (drop (j + 1) right))) L
            ∙ take_right (list_all within out) (within y) (list_all within (x ∷ drop (i + 1) left))
            (list_all within (drop (j + 1) right))
            ∙ within_before within;
        left_rises = λ l r.
            subst (λ xs. IsRising ((out ++ y ∷ []) ++ xs)) (sym L)
            (rises_between out (drop (j + 1) right) (drop (i + 1) left) y x (less y x below) (rising_right l r)
            (rising_left l r));
        right_rises = λ l r. front_rises out (drop (j + 1) right) y (rising_right l r);
      }

-- ---- the same of items as they are read

module _ {left right : List ℕ} {i j : ℕ} {out : List ℕ} (new : List ℕ) {x y : ℕ} (at_left : i < length left)
    (at_right : j < length right) (x_is : x ≡ get_or left i x) (y_is : y ≡ get_or right j y)
    (before : IsMerging left right i j out) where
  X : x ≡ get_or left i 0
  X = x_is ∙ get_or_default left i x 0 at_left

  Y : y ≡ get_or right j 0
  Y = y_is ∙ get_or_default right j y 0 at_right

  pub left_next : new ≡ out ++ x ∷ [] → x < y → IsMerging left right (i + 1) j new
  left_next is below =
      subst (IsMerging left right (i + 1) j) (sym is)
      (subst (λ (v : ℕ). IsMerging left right (i + 1) j (out ++ v ∷ [])) (sym X)
      (takes_left at_left at_right before (let p = X in let q = Y in omega arith)))

  pub right_next : new ≡ out ++ y ∷ [] → y < x → IsMerging left right i (j + 1) new
  right_next is below =
      subst (IsMerging left right i (j + 1)) (sym is)
      (subst (λ (v : ℕ). IsMerging left right i (j + 1) (out ++ v ∷ [])) (sym Y)
      (takes_right at_left at_right before (let p = X in let q = Y in omega arith)))
