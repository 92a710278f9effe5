-- Unions, products and votes do not depend on the order of the families.
use Rattle.std.proofs.Common.{Result, MatchResult, IfOk, Ok, Err, ◌≡◌, ℕ, ◌+◌, Bool, true, nat_le, if◌then◌else◌, List}
use Rattle.std.proofs.Common.{[], ◌∷◌, refl, sym, ◌∙◌, ap}
use Rattle.std.specs.{List.list_all, List.sum_by, List.Sorted.IsPermutation}
use Rattle.std.proofs.lemmas.List.Sums.{AllPass-from_list_all, list_all-from_AllPass, sum_by-cons}
use Rattle.std.proofs.lemmas.List.Sorted.{All-permutation, IsPermutation-map, IsPermutation-sym, list_any-IsPermutation}
use Rattle.std.proofs.lemmas.List.Sorted.{sum_by-IsPermutation}
use Rattle.zdd_families.specs.Within.{count_within}
use Rattle.zdd_families.proofs.{InclusionLemmas.same_Bool, LeastLemmas.IsLeastFor-same}
use Rattle.zdd_families.specs.Least.{IsLeastOfAll, IsLeastProductOfAll, IsLeastVotes}
use Rattle.family_memory.specs.Memory.{Held, Gave, RanOut, family_in}
use Rattle.many_families.specs.Lists.{families}
use Rattle.unit_sets.specs.UnitList.{some_within}

votes_by_sum : (fs : List (List (List ℕ))) (within : ℕ → Bool)
    → count_within fs within ≡ sum_by (λ f. if some_within f within then 1 else 0) fs
votes_by_sum [] within = refl
votes_by_sum (f ∷ fs) within =
    ap (λ n. (if some_within f within then 1 else 0) + n) (votes_by_sum fs within)
    ∙ sym (sum_by-cons (λ g. if some_within g within then 1 else 0) f fs)

same_votes : {fs gs : List (List (List ℕ))} (within : ℕ → Bool) → IsPermutation fs gs
    → count_within gs within ≡ count_within fs within
same_votes {fs} {gs} within moved =
    votes_by_sum gs within ∙ sum_by-IsPermutation (λ f. if some_within f within then 1 else 0) fs gs moved
    ∙ sym (votes_by_sum fs within)

module _ (held after : Held) {list members : List ℕ} (votes : ℕ) (moved : IsPermutation list members) where
  reordered : {least : List (List ℕ)} → IsLeastVotes votes (families held members) least
      → IsLeastVotes votes (families held list) least
  reordered is =
      IsLeastFor-same is (λ within. ap (nat_le votes) (same_votes within
      (IsPermutation-map (family_in held) list members moved)))

  pub votes_reordered : {E : Type 0} (result : Result ℕ E)
      → MatchResult result (Gave (IsLeastVotes votes (families held members)) held after) (λ _. RanOut held after)
      → IfOk result (Gave (IsLeastVotes votes (families held list)) held after)
  votes_reordered (Ok r) gave = record { went = gave.went; has = gave.has; is = reordered gave.is }
  votes_reordered (Err e) out = tt

-- ---- unions and products

all_to : (p : List (List ℕ) → Bool) {fs gs : List (List (List ℕ))} → IsPermutation fs gs → list_all p fs ≡ true
    → list_all p gs ≡ true
all_to p {fs} {gs} moved t =
    list_all-from_AllPass p gs (All-permutation (λ f. p f ≡ true) fs gs moved (AllPass-from_list_all p fs t))

same_all : (p : List (List ℕ) → Bool) {fs gs : List (List (List ℕ))} → IsPermutation fs gs
    → list_all p gs ≡ list_all p fs
same_all p {fs} {gs} moved =
    same_Bool (list_all p gs) (list_all p fs) (all_to p (IsPermutation-sym fs gs moved)) (all_to p moved)

module _ (held after : Held) {list members : List ℕ} (moved : IsPermutation list members) where
  moved_families : IsPermutation (families held list) (families held members)
  moved_families = IsPermutation-map (family_in held) list members moved

  pub union_reordered : {E : Type 0} (result : Result ℕ E)
      → IfOk result (Gave (IsLeastOfAll (families held members)) held after)
      → IfOk result (Gave (IsLeastOfAll (families held list)) held after)
  union_reordered (Ok r) gave = record {
    went = gave.went;
    has = gave.has;
    is = IsLeastFor-same gave.is
        (λ within. sym (list_any-IsPermutation (λ f. some_within f within) (families held list) (families held members)
        moved_families));
  }
  union_reordered (Err e) none = tt

  pub product_reordered : {E : Type 0} (result : Result ℕ E)
      → IfOk result (Gave (IsLeastProductOfAll (families held members)) held after)
      → IfOk result (Gave (IsLeastProductOfAll (families held list)) held after)
  product_reordered (Ok r) gave = record {
    went = gave.went;
    has = gave.has;
    is = IsLeastFor-same gave.is (λ within. same_all (λ f. some_within f within) moved_families);
  }
  product_reordered (Err e) none = tt
