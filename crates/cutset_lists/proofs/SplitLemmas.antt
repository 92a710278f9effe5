-- A list in two parts, of which the first stands for itself in a product.
use Rattle.std.specs.Prelude.{◌≡◌, ℕ, ◌+◌, ◌<◌, ◌≤◌, Bool, true, false, ◌&&◌, ◌||◌, nat_lt}
use Rattle.std.specs.Prelude.{List, [], ◌∷◌, ◌++◌, length, take, All, get_or}
use Rattle.std.specs.List.{list_any, list_all}
use Rattle.std.proofs.Common.{refl, sym, ◌∙◌, ap, subst, arith, append_assoc}
use Rattle.std.proofs.{lemmas.Bool.and_parts, lemmas.List.Folds.Any-from_list_any, lemmas.List.Folds.list_any-from_Any}
use Rattle.std.proofs.lemmas.List.{append-nil, get_or-take, length-take}
use Rattle.std.proofs.lemmas.List.Elements.{All-push, All-nil, All-append, All-contains}
use Rattle.unit_sets.specs.UnitList.{is_within, some_within}
use Rattle.cutset_lists.specs.Sets.{IsSetOf, AreSetsOf, AddsProduct, is_short_within, Includes}
use Rattle.cutset_lists.specs.Sets.{IsSplit, Splits}
use Rattle.cutset_lists.specs.Waiting.{set_at}
use Rattle.cutset_lists.proofs.SetLemmas.{some_within-append, some_within-push, some_within-more}
use Rattle.cutset_lists.proofs.SetLemmas.{sets_before}
use Rattle.cutset_lists.proofs.{MinimalLemmas.all_within, WaitingLemmas.some_holds}

-- ---- sets that include one of a list

pub included_if_found : (sets : List (List ℕ)) (set : List ℕ) (count size : ℕ) {found : Bool} → count ≤ length sets
    → found ≡ list_any (is_short_within size set) (take count sets) → found ≡ true → Includes sets set
included_if_found sets set count size low is holds_it =
    let (k, smaller, short, same, holds) =
    Any-from_list_any (is_short_within size set) (take count sets) (sym is ∙ holds_it) in
    let inside : k < count = omega (arith, length-take {A = List ℕ}) in
    list_any-from_Any (is_within set) sets (
      k,
      smaller,
      omega arith,
      sym (get_or-take count sets k smaller inside) ∙ same,
      (and_parts (nat_lt (length smaller) size) (is_within set smaller) holds).1,
    )

-- where they are true the list is
hit_if_included : (within : ℕ → Bool) (other including : List (List ℕ)) → All (Includes other) including
    → some_within including within ≡ true → some_within other within ≡ true
hit_if_included within other including all hit =
    let (k, set, short, same, holds) = Any-from_list_any (list_all within) including hit in
    let includes : Includes other set = All-contains (Includes other) including set all (k, short, same) in
    let (j, smaller, inner, is, inside) = Any-from_list_any (is_within set) other includes in
    some_holds (list_all within) other smaller (j, inner, is) (all_within within set smaller holds inside)

-- ---- one set after another

abbrev pub FilledTo : List (List ℕ) → ℕ → Type 0
FilledTo sets i = (place : ℕ) → place < i → 1 ≤ length (set_at sets place)

to_first : {l : Bool} (i r s : Bool) {n m : Bool} → l ≡ (i || r) → n ≡ (l || s) → m ≡ (i || s) → n ≡ (m || r)
to_first true r s e f g = cc
to_first false true true e f g = cc
to_first false true false e f g = cc
to_first false false true e f g = cc
to_first false false false e f g = cc

to_second : {l : Bool} (i r s : Bool) {n m : Bool} → l ≡ (i || r) → n ≡ (l || s) → m ≡ (r || s) → n ≡ (i || m)
to_second true r s e f g = cc
to_second false true s e f g = cc
to_second false false s e f g = cc

module _ (list : List (List ℕ)) {other including rest : List (List ℕ)} {set : List ℕ} (i : ℕ) (short : i < length list)
    (set_is : set ≡ get_or list i []) (before : IsSplit (take i list) other including rest) where
  pub to_including : Includes other set → IsSplit (take (i + 1) list) other (including ++ set ∷ []) rest
  to_including includes = record {
    some_within = λ within.
        to_first (some_within including within) (some_within rest within)
        (list_all within set) (before.some_within within)
        (some_within-more list i short set_is within) (some_within-push including set within);
    included = All-push (Includes other) including set before.included includes;
    sets = λ passes all.
        let now = sets_before list i short set_is passes all in
        let parts = before.sets passes now.0 in (All-push (IsSetOf passes) including set parts.0 now.1, parts.1);
  }

  pub to_rest : IsSplit (take (i + 1) list) other including (rest ++ set ∷ [])
  to_rest = record {
    some_within = λ within.
        to_second (some_within including within) (some_within rest within) (list_all within set)
        (before.some_within within) (some_within-more list i short set_is within) (some_within-push rest set within);
    included = before.included;
    sets = λ passes all.
        let now = sets_before list i short set_is passes all in
        let parts = before.sets passes now.0 in (parts.0, All-push (IsSetOf passes) rest set parts.1 now.1);
  }

-- before the first set
pub Splits-none : (list other old : List (List ℕ)) {rest : List (List ℕ)} → rest ≡ []
    → Splits (take 0 list) other old old rest
Splits-none list other old none = record {
  including = [];
  is = sym (append-nil old);
  split = subst (IsSplit [] other []) (sym none) (record {
    some_within = λ _. refl;
    included = All-nil (Includes other);
    sets = λ passes all. (all, all);
  });
}

-- with the next set, as the code has it
module _ (list other old added rest : List (List ℕ)) {set : List ℕ} (i : ℕ) (short : i < length list)
    (set_is : set ≡ get_or list i []) (before : Splits (take i list) other old added rest) where
  pub Splits-including : {new still : List (List ℕ)} → new ≡ added ++ set ∷ [] → still ≡ rest → Includes other set
      → Splits (take (i + 1) list) other old new still
  Splits-including is same includes = record {
    including = before.including ++ set ∷ [];
    is =
        is ∙ ap (λ l. l ++ set ∷ []) before.is
        ∙ append_assoc old before.including (set ∷ []);
    split = subst (IsSplit (take (i + 1) list) other (before.including ++ set ∷ [])) (sym same)
        (to_including list i short set_is before.split includes);
  }

  pub Splits-rest : {still new : List (List ℕ)} → still ≡ added → new ≡ rest ++ set ∷ []
      → Splits (take (i + 1) list) other old still new
  Splits-rest same is = record {
    including = before.including;
    is = same ∙ before.is;
    split = subst (IsSplit (take (i + 1) list) other before.including) (sym is)
        (to_rest list i short set_is before.split);
  }

-- ---- the product

split_product : (o i r i' r' : Bool) {m n : Bool} → (i ≡ true → (i' || r') ≡ true) → (i' ≡ true → (i || r) ≡ true)
    → m ≡ ((o || i) || i') → n ≡ (m || (r && r')) → n ≡ (o || ((i || r) && (i' || r')))
split_product true i r i' r' h k e f = cc
split_product false true r true r' h k e f = cc
split_product false true r false r' h k e f = let g = h refl in cc
split_product false false true true r' h k e f = cc
split_product false false false true r' h k e f = let g = k refl in absurd cc
split_product false false r false r' h k e f = cc

module _ (left right old sets more new rest rest' : List (List ℕ))
    (one : Splits left right old sets rest) (other : Splits right left sets more rest') where
  pub AddsProduct-split : AddsProduct rest rest' more new → AddsProduct left right old new
  AddsProduct-split adds =
      let including : List (List ℕ) = one.including in
      let including' : List (List ℕ) = other.including in record {
        some_within = λ within.
            let before : some_within more within
            ≡ ((some_within old within || some_within including within) || some_within including' within) =
            ap (λ s. some_within s within) other.is ∙ some_within-append sets including' within
            ∙ ap (λ b. b || some_within including' within) (ap (λ s. some_within s within) one.is
            ∙ some_within-append old including within) in
            split_product (some_within old within) (some_within including within) (some_within rest within)
            (some_within including' within) (some_within rest' within) (λ hit. sym (other.split.some_within within)
            ∙ hit_if_included within right including one.split.included hit)
            (λ hit. sym (one.split.some_within within)
            ∙ hit_if_included within left including' other.split.included hit)
            before (adds.some_within within)
            ∙ ap (λ b. some_within old within || (b && (some_within including' within || some_within rest' within)))
            (sym (one.split.some_within within))
            ∙ ap (λ b. some_within old within || (some_within left within && b))
            (sym (other.split.some_within within));
        sets = λ passes l r before.
            let mine = one.split.sets passes l in
            let others = other.split.sets passes r in
            adds.sets passes mine.1 others.1
            (subst (AreSetsOf passes) (sym other.is) (All-append (IsSetOf passes) sets including'
            (subst (AreSetsOf passes) (sym one.is) (All-append (IsSetOf passes) old including before mine.0))
            others.0));
      }
