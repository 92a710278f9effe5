-- Laws of lists of sets and of sets, over plain lists.
use Rattle.std.specs.Prelude.{◌≡◌, ℕ, ◌+◌, ◌<◌, Bool, true, false, ◌&&◌, ◌||◌, List, [], ◌∷◌, ◌++◌, length, take}
use Rattle.std.specs.Prelude.{get_or, Some}
use Rattle.std.specs.List.{list_all}
use Rattle.std.proofs.Common.{refl, sym, ◌∙◌, ap, subst}
use Rattle.std.proofs.{Math.Bool.or-false, lemmas.List.take_more, lemmas.List.Folds.list_any-append}
use Rattle.std.proofs.{lemmas.List.Elements.All-push, lemmas.List.Elements.All-pop}
use Rattle.cutset_lists.specs.Sets.{IsSetOf, AreSetsOf, IsUnion, AddsUnions, AddsProduct, IsReducedFrom}
use Rattle.unit_sets.specs.UnitList.{some_within}

pub same_bool : (a b : Bool) → (a ≡ true → b ≡ true) → (b ≡ true → a ≡ true) → a ≡ b
same_bool true b to from = sym (to refl)
same_bool false true to from = from refl
same_bool false false to from = refl

pub some_within-append : (sets more : List (List ℕ)) (within : ℕ → Bool)
    → some_within (sets ++ more) within ≡ (some_within sets within || some_within more within)
some_within-append sets more within = list_any-append (list_all within) sets more

pub some_within-push : (sets : List (List ℕ)) (set : List ℕ) (within : ℕ → Bool)
    → some_within (sets ++ set ∷ []) within ≡ (some_within sets within || list_all within set)
some_within-push sets set within =
    some_within-append sets (set ∷ []) within ∙ ap (λ b. some_within sets within || b) (or-false (list_all within set))

-- with one row more
module _ (sets : List (List ℕ)) (i : ℕ) {row : List ℕ} (short : i < length sets) (is : row ≡ get_or sets i []) where
  pub next_row : take (i + 1) sets ≡ take i sets ++ row ∷ []
  next_row = take_more sets i [] short ∙ ap (λ r. take i sets ++ r ∷ []) (sym is)

  pub some_within-more : (within : ℕ → Bool)
      → some_within (take (i + 1) sets) within ≡ (some_within (take i sets) within || list_all within row)
  some_within-more within =
      ap (λ s. some_within s within) next_row ∙ some_within-push (take i sets) row within

  -- the rows before, and the row
  pub sets_before : (passes : ℕ → Bool) → AreSetsOf passes (take (i + 1) sets)
      → AreSetsOf passes (take i sets) × IsSetOf passes row
  sets_before passes all = All-pop (IsSetOf passes) (take (i + 1) sets) (take i sets) (Some row) next_row all

-- ---- unions

pub IsUnion-set : {passes : ℕ → Bool} {left right union : List ℕ} → IsUnion left right union → IsSetOf passes left
    → IsSetOf passes right → IsSetOf passes union
IsUnion-set {passes} is l r = record {
  rising = is.rising l.rising r.rising;
  pass = let e = is.within passes in let p = l.pass in let q = r.pass in cc;
}

adds_step : (o s t h : Bool) {n m u : Bool} → n ≡ (o || (s && t)) → m ≡ (n || u) → u ≡ (s && h)
    → m ≡ (o || (s && (t || h)))
adds_step true s t h e f g = cc
adds_step false true t h e f g = cc
adds_step false false t h e f g = cc

-- the union with one set more
module _ {set row union : List ℕ} (list old sets : List (List ℕ)) {new : List (List ℕ)} (i : ℕ)
    (short : i < length list)
    (row_is : row ≡ get_or list i []) (new_is : new ≡ sets ++ union ∷ []) (is : IsUnion set row union) where
  pub AddsUnions-step : AddsUnions set (take i list) old sets → AddsUnions set (take (i + 1) list) old new
  AddsUnions-step adds = record {
    some_within = λ within.
        adds_step (some_within old within) (list_all within set) (some_within (take i list) within)
        (list_all within row)
        (adds.some_within within) (ap (λ s. some_within s within) new_is ∙ some_within-push sets union within)
        (is.within within)
        ∙ ap (λ b. some_within old within || (list_all within set && b))
        (sym (some_within-more list i short row_is within));
    sets = λ passes one each before.
        let parts = sets_before list i short row_is passes each in
        subst (AreSetsOf passes) (sym new_is)
        (All-push (IsSetOf passes) sets union (adds.sets passes one parts.0 before) (IsUnion-set is one parts.1));
  }

-- ---- products

product_step : (o l r s : Bool) {n m : Bool} → n ≡ (o || (l && r)) → m ≡ (n || (s && r)) → m ≡ (o || ((l || s) && r))
product_step true l r s e f = cc
product_step false true true s e f = cc
product_step false true false true e f = cc
product_step false true false false e f = cc
product_step false false r s e f = cc

module _ {row : List ℕ} (left right old sets new : List (List ℕ)) (i : ℕ) (short : i < length left)
    (row_is : row ≡ get_or left i []) where
  pub AddsProduct-step : AddsProduct (take i left) right old sets → AddsUnions row right sets new
      → AddsProduct (take (i + 1) left) right old new
  AddsProduct-step both adds = record {
    some_within = λ within.
        product_step (some_within old within) (some_within (take i left) within) (some_within right within)
        (list_all within row) (both.some_within within) (adds.some_within within)
        ∙ ap (λ b. some_within old within || (b && some_within right within))
        (sym (some_within-more left i short row_is within));
    sets = λ passes l r before.
        let parts = sets_before left i short row_is passes l in
        adds.sets passes parts.1 r (both.sets passes parts.0 r before);
  }

-- a product with fewer sets
pub AddsProduct-reduced : {left right old sets : List (List ℕ)} (new : List (List ℕ)) → AddsProduct left right old sets
    → IsReducedFrom sets new → AddsProduct left right old new
AddsProduct-reduced {sets} new adds less = record {
  some_within = λ within. less.some_within within ∙ adds.some_within within;
  sets = λ passes l r before. less.sets passes (adds.sets passes l r before);
}
