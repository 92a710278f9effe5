-- The minimal sets of unions, products and votes of many families, one family after another.
use Rattle.std.specs.Prelude.{◌≡◌, ℕ, suc, ◌+◌, Bool, true, false, ◌&&◌, ◌||◌, nat_le, List, [], ◌∷◌, ◌++◌}
use Rattle.std.specs.Prelude.{if◌then◌else◌}
use Rattle.std.proofs.Common.{refl, sym, ◌∙◌, ap, inl, inr, zero-add, arith}
use Rattle.std.proofs.lemmas.Bool.{and_parts, or_right, and_from, or_cases, le-leb, leb-true}
use Rattle.std.proofs.lemmas.List.Folds.{list_any-append, list_all-append}
use Rattle.zdd_families.specs.{Within.count_within, Antichains.IsAntichain}
use Rattle.zdd_families.proofs.{InclusionLemmas.same_Bool, MinimalLemmas.minimal-none, MinimalLemmas.minimal-unit}
use Rattle.zdd_families.proofs.{LeastLemmas.IsLeastFor-same, StepsLemmas.and_of, StepsLemmas.or_of}
use Rattle.zdd_families.specs.Least.{IsLeastUnion, IsLeastProduct, IsLeastOfAll}
use Rattle.zdd_families.specs.Least.{IsLeastProductOfAll, IsLeastVotes}
use Rattle.unit_sets.specs.UnitList.{some_within}

-- ---- unions of two lists

pub least_of_none : IsLeastOfAll [] []
least_of_none = record { antichain = minimal-none; some_within = λ within. refl }

pub least_of_one : {f : List (List ℕ)} → IsAntichain f → IsLeastOfAll (f ∷ []) f
least_of_one {f} is = record { antichain = is; some_within = λ within. grind arith }

pub least_of_both : (fs gs : List (List (List ℕ))) (f g h : List (List ℕ)) → IsLeastOfAll fs f → IsLeastOfAll gs g
    → IsLeastUnion f g h → IsLeastOfAll (fs ++ gs) h
least_of_both fs gs f g h of_fs of_gs is =
    IsLeastFor-same is
    (λ within. or_of (of_fs.some_within within) (of_gs.some_within within)
    ∙ sym (list_any-append (λ e. some_within e within) fs gs))

-- ---- products, one family more

pub product_of_none : IsLeastProductOfAll [] ([] ∷ [])
product_of_none = record { antichain = minimal-unit; some_within = λ within. refl }

pub product_of_more : (fs : List (List (List ℕ))) (f g h : List (List ℕ)) → IsLeastProductOfAll fs f
    → IsLeastProduct f g h → IsLeastProductOfAll (fs ++ g ∷ []) h
product_of_more fs f g h of_fs is =
    IsLeastFor-same is (λ within. and_of (of_fs.some_within within) (grind arith)
    ∙ sym (list_all-append (λ e. some_within e within) fs (g ∷ [])))

-- ---- votes, one family more in front

pub no_votes : (fs : List (List (List ℕ))) → IsLeastVotes 0 fs ([] ∷ [])
no_votes fs =
    record { antichain = minimal-unit; some_within = λ within. sym (le-leb _ _ (omega arith)) }

vote_to : (p c : ℕ) → nat_le (suc p) (1 + c) ≡ true → (nat_le (suc p) c || (nat_le p c && true)) ≡ true
vote_to p c t =
    let h = leb-true _ _ t in or_right (nat_le (suc p) c) (nat_le p c && true)
    (and_from _ _ (le-leb _ _ (omega arith)) refl)

vote_from : (p c : ℕ) → (nat_le (suc p) c || (nat_le p c && true)) ≡ true → nat_le (suc p) (1 + c) ≡ true
vote_from p c t =
    elim (or_cases _ _ t) [
      | inl more ↦ let h = leb-true (suc p) c more in le-leb (suc p) (1 + c) (omega arith)
      | inr enough ↦ let h = leb-true p c (and_parts _ _ enough).0 in le-leb (suc p) (1 + c) (omega arith)
    ]

one_vote : (p c : ℕ) (hit : Bool) → nat_le (suc p) ((if hit then 1 else 0) + c)
    ≡ (nat_le (suc p) c || (nat_le p c && hit))
one_vote p c true =
    same_Bool _ _ (vote_to p c) (vote_from p c)
one_vote p c false = ap (λ n. nat_le (suc p) n) (zero-add c) ∙ grind arith

-- the votes without the family, and one vote fewer with one of its sets
pub votes_of_more : (count : ℕ) (f : List (List ℕ)) (fs : List (List (List ℕ))) (same fewer more h : List (List ℕ))
    → IsLeastVotes (suc count) fs same → IsLeastVotes count fs fewer → IsLeastProduct fewer f more
    → IsLeastUnion same more h → IsLeastVotes (suc count) (f ∷ fs) h
votes_of_more count f fs same fewer more h same_is fewer_is more_is is =
    IsLeastFor-same is (λ within.
    or_of (same_is.some_within within) (more_is.some_within within ∙ and_of (fewer_is.some_within within) refl)
    ∙ sym (one_vote count (count_within fs within) (some_within f within)))
