-- What follows from the definitions of `specs/Least`.
use Rattle.std.specs.Prelude.{◌≡◌, ◌↔◌, ℕ, Bool, true, List, Contains}
use Rattle.std.specs.List.{list_all}
use Rattle.std.proofs.Common.{refl, sym, ◌∙◌, subst}
use Rattle.std.proofs.lemmas.Bool.{and_parts, ltb-true}
use Rattle.unit_sets.specs.UnitList.{among, is_within, some_within}
use Rattle.unit_sets.proofs.UnitListLemmas.{is_within-from_among}
use Rattle.zdd_families.specs.Family.{IsFamily, IsAbove}
use Rattle.zdd_families.proofs.{CutsLemmas.set_rises, CutsLemmas.each-from_contains, MinimalLemmas.minimal-one}
use Rattle.zdd_families.proofs.MinimalLemmas.{minimal-itself}
use Rattle.zdd_families.proofs.{SetsLemmas.above_from_among, CutAtUnit.above_only}
use Rattle.zdd_families.proofs.WithinLemmas.{HasWithin, HasWithin-from_test, some_within-from_set}
use Rattle.zdd_families.proofs.WithinLemmas.{some_within-minimal}
use Rattle.zdd_families.proofs.WithinLemmas.{some_within-union, some_within-product, some_within-votes, passes_at}
use Rattle.zdd_families.proofs.InclusionLemmas.{within_itself, within_trans, same_within}
use Rattle.zdd_families.specs.{Minimal.IsMinimal, Minimal.IncludesNoOther, Product.IsProduct, Union.IsUnion}
use Rattle.zdd_families.specs.{Votes.IsVotes, Antichains.IsAntichain}
use Rattle.zdd_families.specs.Least.{IsLeastFor, IsLeastProduct, IsLeastUnion, IsLeastVotes}

pub IsLeastFor-same : {p q : (ℕ → Bool) → Bool} {least : List (List ℕ)} → IsLeastFor p least
    → ((within : ℕ → Bool) → p within ≡ q within) → IsLeastFor q least
IsLeastFor-same is same =
    record { antichain = is.antichain; some_within = λ within. is.some_within within ∙ same within }

-- an antichain is the minimal family of where it is true
pub IsLeastFor-itself : {f : List (List ℕ)} → IsAntichain f → IsLeastFor (some_within f) f
IsLeastFor-itself is = record { antichain = is; some_within = λ within. refl }

-- ---- an antichain that is true as a family is has its minimal sets

module _ {f : List (List ℕ)} (least : List (List ℕ)) (is_family : IsFamily f) (is : IsLeastFor (some_within f) least)
  where
    least_rises : (set : List ℕ) → Contains least set → Contains least set × IncludesNoOther least set
    least_rises set has = (is.antichain.sets set).0 has

    below : (set : List ℕ) → Contains least set → HasWithin f (among set)
    below set has =
        HasWithin-from_test f (sym (is.some_within (among set))
        ∙ some_within-from_set _ _ _ has (within_itself set))

    under : (set : List ℕ) → Contains f set → HasWithin least (among set)
    under set has =
        HasWithin-from_test least (is.some_within (among set)
        ∙ some_within-from_set _ _ _ has (within_itself set))

    -- a set of the family within one of the antichain is the same set
    same_below : {set other : List ℕ} → Contains least set → Contains f other → is_within set other ≡ true → other ≡ set
    same_below {set} {other} has has' within =
        let found : HasWithin least (among other) = under other has' in
        let same : found.set ≡ set =
        (least_rises set has).1 found.set found.has (within_trans set other found.set within found.passes) in
        same_within (set_rises other is_family has') (set_rises set is.antichain.is_family has)
        (subst (λ q. is_within other q ≡ true) same found.passes) within

    to : (set : List ℕ) → Contains least set → Contains f set × IncludesNoOther f set
    to set has =
        let found : HasWithin f (among set) = below set has in (
          subst (Contains f) (same_below {set = set} {other = found.set} has found.has found.passes) found.has,
          λ other has' within. same_below has has' within,
        )

    from : (set : List ℕ) → Contains f set → IncludesNoOther f set → Contains least set
    from set has none =
        let found : HasWithin least (among set) = under set has in
        let part : HasWithin f (among found.set) = below found.set found.has in
        let same : part.set ≡ set =
        none part.set part.has (within_trans set found.set part.set found.passes part.passes) in
        let same' : part.set ≡ found.set = same_below found.has part.has part.passes in
        subst (Contains least) (sym same' ∙ same) found.has

    pub minimal-from_within : IsMinimal f least
    minimal-from_within =
        record { is_family = is.antichain.is_family; sets = λ set. (to set, λ both. from set both.0 both.1) }

-- and the minimal sets of a family are such an antichain
pub antichain-minimal : {f least : List (List ℕ)} → IsMinimal f least → IsAntichain least
antichain-minimal is =
    minimal-itself is.is_family
    (λ set other has has' within. ((is.sets set).0 has).1 other ((is.sets other).0 has').0 within)

pub IsLeastFor-minimal : {f least : List (List ℕ)} → IsFamily f → IsMinimal f least → IsLeastFor (some_within f) least
IsLeastFor-minimal {f} {least} is_family is =
    record {
      antichain = antichain-minimal is;
      some_within = λ within. some_within-minimal f least within is_family is;
    }

-- two antichains that are true of the same sets of units are equal
pub least-one : {test : (ℕ → Bool) → Bool} {f g : List (List ℕ)} → IsLeastFor test f → IsLeastFor test g → f ≡ g
least-one {f} {g} is is' =
    minimal-one g f g (minimal-from_within f is'.antichain.is_family
    (record { antichain = is.antichain; some_within = λ within. is.some_within within ∙ sym (is'.some_within within) }))
    is'.antichain

-- ---- what the words say, in those of the operations

both_ways : {f least : List (List ℕ)} {test : (ℕ → Bool) → Bool} → IsFamily f
    → ((within : ℕ → Bool) → some_within f within ≡ test within) → (IsLeastFor test least ↔ IsMinimal f least)
both_ways {least} is_family same = (
  λ is. minimal-from_within least is_family (IsLeastFor-same is (λ within. sym (same within))),
  λ is. IsLeastFor-same (IsLeastFor-minimal is_family is) same,
)

pub least-union : (f g h least : List (List ℕ)) → IsUnion f g h → (IsLeastUnion f g least ↔ IsMinimal h least)
least-union f g h least is =
    both_ways is.is_family (λ within. some_within-union f g h within is)

pub least-product : (f g h least : List (List ℕ)) → IsProduct f g h → (IsLeastProduct f g least ↔ IsMinimal h least)
least-product f g h least is =
    both_ways is.is_family (λ within. some_within-product f g h within is)

pub least-votes : (count : ℕ) (families : List (List (List ℕ))) (h least : List (List ℕ)) → IsVotes count families h
    → (IsLeastVotes count families least ↔ IsMinimal h least)
least-votes count families h least is =
    both_ways is.is_family (λ within. some_within-votes count families h within is)

-- ---- the units of a minimal family

-- a set whose units pass a test that only units of another pass is within the other
within_from : (set part : List ℕ) (within : ℕ → Bool) → ((unit : ℕ) → within unit ≡ true → among set unit ≡ true)
    → list_all within part ≡ true → is_within set part ≡ true
within_from set part within of_set passes =
    is_within-from_among set part (λ unit h. of_set unit (passes_at within part unit passes h))

-- where the test asks of no unit but those above x, all units are above x
pub least-above : {test : (ℕ → Bool) → Bool} (x : ℕ) {least : List (List ℕ)} → IsLeastFor test least
    → ((within : ℕ → Bool) → test (above_only x within) ≡ test within) → IsAbove x least
least-above x {least} is asks =
    each-from_contains _ _ (λ set has.
    let within : ℕ → Bool = above_only x (among set) in
    let found : HasWithin least within =
    HasWithin-from_test least (is.some_within within ∙ asks (among set) ∙ sym (is.some_within (among set))
    ∙ some_within-from_set _ _ _ has (within_itself set)) in
    let passes : (unit : ℕ) → among found.set unit ≡ true → within unit ≡ true =
    λ unit h. passes_at within found.set unit found.passes h in
    let same : found.set ≡ set =
    ((is.antichain.sets set).0 has).1 found.set found.has
    (within_from set found.set within (λ unit h. (and_parts _ _ h).0)
    found.passes) in
    above_from_among _ _ (λ unit h. ltb-true x unit
    (and_parts _ _ (passes unit
    (subst (λ q. among q unit ≡ true) (sym same) h))).1))
