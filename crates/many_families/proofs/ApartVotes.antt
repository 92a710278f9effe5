-- Votes over families that share no unit: a minimal set of so many votes has exactly that many, so that none includes
-- one with more.
use Rattle.std.proofs.Common.{◌≡◌, ℕ, suc, ◌+◌, ◌==◌, ◌<◌, ◌≤◌, Bool, true, false, not, ◌&&◌, ◌||◌, nat_le}
use Rattle.std.proofs.Common.{if◌then◌else◌, List, [], ◌∷◌, Contains, refl, sym, ◌∙◌, ap, subst, inl, inr, arith}
use Rattle.std.proofs.Common.{eq-eqb}
use Rattle.std.specs.List.{list_all}
use Rattle.std.proofs.lemmas.Bool.{cases_lt, and_parts, and_from, false_from_ne_true, false≢true, leb-true, le-leb}
use Rattle.std.proofs.lemmas.Bool.{lt-ltb, ne_eqb, or_left, or_right, or_cases}
use Rattle.unit_sets.specs.UnitList.{among, is_within, some_within}
use Rattle.unit_sets.proofs.UnitListLemmas.{is_within-from_among}
use Rattle.zdd_families.specs.{Family.IsAbove, Within.count_within, Inclusion.includes_one, Least.IsLeastVotes}
use Rattle.zdd_families.specs.{LeastNodes.IncludesNoneOf, Units.HasUnit}
use Rattle.zdd_families.proofs.WithinLemmas.{HasWithin, HasWithin-from_test, passes_at, passes_from}
use Rattle.zdd_families.proofs.WithinLemmas.{some_within-from_set}
use Rattle.zdd_families.proofs.{InclusionLemmas.same_Bool, CutAtUnit.above_only, LeastLemmas.IsLeastFor-same}
use Rattle.zdd_families.proofs.{LeastLemmas.least-above}
use Rattle.many_families.specs.{Lists.AreApartFrom, Lists.IsBetween, Joins.IsJoined, Joins.IsBelow}

-- ---- which units a family asks of

abbrev votes_of : Bool → ℕ
votes_of hit = if hit then 1 else 0

hit_too : (f : List (List ℕ)) (p q : ℕ → Bool) → ((unit : ℕ) → HasUnit f unit → p unit ≡ q unit)
    → some_within f p ≡ true → some_within f q ≡ true
hit_too f p q same t =
    let found : HasWithin f p = HasWithin-from_test f t in
    some_within-from_set f q found.set found.has (passes_from q found.set (λ unit h.
    sym (same unit (found.set, found.has, h)) ∙ passes_at p found.set unit found.passes h))

same_hit : (f : List (List ℕ)) (p q : ℕ → Bool) → ((unit : ℕ) → HasUnit f unit → p unit ≡ q unit)
    → some_within f p ≡ some_within f q
same_hit f p q same =
    same_Bool (some_within f p) (some_within f q) (hit_too f p q same)
    (hit_too f q p (λ unit has. sym (same unit has)))

-- families from a floor on ask of no other unit
pub same_from : (floor : ℕ) (fs : List (List (List ℕ))) (p q : ℕ → Bool) → AreApartFrom floor fs
    → ((unit : ℕ) → floor ≤ unit → p unit ≡ q unit) → count_within fs p ≡ count_within fs q
same_from floor [] p q are same = refl
same_from floor (f ∷ fs) p q (next, is, others) same =
    ap (λ n. n + count_within fs p) (ap votes_of (same_hit f p q (λ unit has. same unit (is.low unit has))))
    ∙ ap (λ n. votes_of (some_within f q) + n)
    (same_from next fs p q others (λ unit high. same unit (let h = is.order in omega (arith, h, high))))

-- ---- one unit fewer

-- the same without one unit
abbrev except : ℕ → (ℕ → Bool) → ℕ → Bool
except u within v = within v && not (u == v)

and_yes : (a : Bool) → a ≡ (a && true)
and_yes true = refl
and_yes false = refl

except_other : (u v : ℕ) (within : ℕ → Bool) → ¬ (u ≡ v) → within v ≡ except u within v
except_other u v within differ = and_yes (within v) ∙ ap (λ b. within v && not b) (sym (ne_eqb u v differ))

at_most_one : (b : Bool) → votes_of b ≤ 1
at_most_one true = omega arith
at_most_one false = omega arith

-- without one unit at most one vote fewer is left
pub one_fewer : (floor u : ℕ) (fs : List (List (List ℕ))) (within : ℕ → Bool) → AreApartFrom floor fs
    → count_within fs within ≤ suc (count_within fs (except u within))
one_fewer floor u [] within are = omega arith
one_fewer floor u (f ∷ fs) within (next, is, others) =
    elim (cases_lt u next) [
      | inl here ↦
          let same : count_within fs within ≡ count_within fs (except u within) =
          same_from next fs within (except u within) others
          (λ v above. except_other u v within (λ e. omega (arith, e, above, here))) in
          let few : votes_of (some_within f within) ≤ 1 = at_most_one (some_within f within) in
          omega (arith, same, few)
      | inr later ↦
          let same : votes_of (some_within f within) ≡ votes_of (some_within f (except u within)) =
          ap votes_of (same_hit f within (except u within) (λ v has.
          except_other u v within (λ e. let h = is.high v has in omega (arith, e, h, later)))) in
          let less : count_within fs within ≤ suc (count_within fs (except u within)) =
          one_fewer next u fs within others in
          omega (arith, same, less)
    ]

within_none : (set : List ℕ) → list_all (among []) set ≡ true → set ≡ []
within_none [] passes = refl
within_none (u ∷ set) passes = absurd (false≢true passes)

no_hit : (f : List (List ℕ)) → (Contains f [] → ⊥) → some_within f (among []) ≡ false
no_hit f lacks =
    false_from_ne_true (some_within f (among [])) (λ t.
    let found : HasWithin f (among []) = HasWithin-from_test f t in
    lacks (subst (Contains f) (within_none found.set found.passes) found.has))

none_hit : (floor : ℕ) (fs : List (List (List ℕ))) → AreApartFrom floor fs → count_within fs (among []) ≡ 0
none_hit floor [] are = refl
none_hit floor (f ∷ fs) (next, is, others) =
    let first : votes_of (some_within f (among [])) ≡ 0 = ap votes_of (no_hit f is.lacks) in
    let rest : count_within fs (among []) ≡ 0 = none_hit next fs others in
    omega (arith, first, rest)

-- ---- votes over them

module _ (floor count : ℕ) (fs : List (List (List ℕ))) (are : AreApartFrom floor fs) where
  votes_above : (x wanted : ℕ) {least : List (List ℕ)} → x < floor → IsLeastVotes wanted fs least → IsAbove x least
  votes_above x wanted low is =
      least-above x is (λ within. ap (nat_le wanted) (same_from floor fs (above_only x within) within are
      (λ unit high. ap (λ b. within unit && b) (lt-ltb x unit (omega arith)) ∙ sym (and_yes (within unit)))))

  module _ {fewer : List (List ℕ)} (fewer_is : IsLeastVotes count fs fewer) where
    -- a set with more votes would do without any one of its units
    no_more : (set : List ℕ) → Contains fewer set → count < count_within fs (among set) → ⊥
    no_more [] has more = let none = none_hit floor fs are in omega (arith, none, more)
    no_more (u ∷ rest) has more =
        let set : List ℕ = u ∷ rest in
        let less : count_within fs (among set) ≤ suc (count_within fs (except u (among set))) =
        one_fewer floor u fs (among set) are in
        let hit : some_within fewer (except u (among set)) ≡ true =
        fewer_is.some_within (except u (among set)) ∙ le-leb count (count_within fs (except u (among set)))
        (omega (arith, less, more)) in
        let found : HasWithin fewer (except u (among set)) = HasWithin-from_test fewer hit in
        let passes : (v : ℕ) → among found.set v ≡ true → except u (among set) v ≡ true =
        λ v h. passes_at (except u (among set)) found.set v found.passes h in
        let within : is_within set found.set ≡ true =
        is_within-from_among set found.set (λ v h. (and_parts (among set v) (not (u == v)) (passes v h)).0) in
        let same : found.set ≡ set = ((fewer_is.antichain.sets set).0 has).1 found.set found.has within in
        let there : among found.set u ≡ true =
        ap (λ (q : List ℕ). among q u) same ∙ or_left (u == u) (among rest u) (eq-eqb u u refl) in
        let lacks : not (u == u) ≡ true = (and_parts (among set u) (not (u == u)) (passes u there)).1 in
        false≢true (ap not (sym (eq-eqb u u refl)) ∙ lacks)

    pub votes_include_none : {same : List (List ℕ)} → IsLeastVotes (suc count) fs same → IncludesNoneOf same fewer
    votes_include_none {same} same_is set has =
        false_from_ne_true (includes_one same set) (λ t.
        let more = leb-true (suc count) (count_within fs (among set)) (sym (same_is.some_within (among set)) ∙ t) in
        no_more set has (omega (arith, more)))

    pub is_below : {low : ℕ} {voter same : List (List ℕ)} → IsBetween low floor voter
        → IsLeastVotes (suc count) fs same → IsBelow voter same fewer
    is_below between same_is = record {
      same_above = λ unit has. votes_above unit (suc count) (between.high unit has) same_is;
      fewer_above = λ unit has. votes_above unit count (between.high unit has) fewer_is;
      includes_none = votes_include_none same_is;
      lacks = between.lacks;
    }

-- ---- one family more in front

vote_to : (p c : ℕ) → nat_le (suc p) (1 + c) ≡ true → (nat_le (suc p) c || (nat_le p c && true)) ≡ true
vote_to p c t =
    let h = leb-true (suc p) (1 + c) t in or_right (nat_le (suc p) c) (nat_le p c && true)
    (and_from (nat_le p c) true (le-leb p c (omega arith)) refl)

vote_from : (p c : ℕ) → (nat_le (suc p) c || (nat_le p c && true)) ≡ true → nat_le (suc p) (1 + c) ≡ true
vote_from p c t =
    elim (or_cases (nat_le (suc p) c) (nat_le p c && true) t) [
      | inl more ↦ let h = leb-true (suc p) c more in le-leb (suc p) (1 + c) (omega arith)
      | inr enough ↦ let h = leb-true p c (and_parts (nat_le p c) true enough).0 in le-leb (suc p) (1 + c) (omega arith)
    ]

or_no : (a b : Bool) → a ≡ (a || (b && false))
or_no true b = refl
or_no false true = refl
or_no false false = refl

one_vote : (p c : ℕ) (hit : Bool) → nat_le (suc p) (votes_of hit + c) ≡ (nat_le (suc p) c || (nat_le p c && hit))
one_vote p c true =
    same_Bool (nat_le (suc p) (1 + c)) (nat_le (suc p) c || (nat_le p c && true)) (vote_to p c) (vote_from p c)
one_vote p c false = ap (nat_le (suc p)) (let e : 0 + c ≡ c = omega arith in e) ∙ or_no (nat_le (suc p) c) (nat_le p c)

both_of : {a a' b b' : Bool} (c : Bool) → a ≡ a' → b ≡ b' → (a || (b && c)) ≡ (a' || (b' && c))
both_of {a'} {b} c e e' = ap (λ q. q || (b && c)) e ∙ ap (λ q. a' || (q && c)) e'

pub votes_joined : (count : ℕ) (f : List (List ℕ)) (fs : List (List (List ℕ))) {same fewer h : List (List ℕ)}
    → IsLeastVotes (suc count) fs same → IsLeastVotes count fs fewer → IsJoined f same fewer h
    → IsLeastVotes (suc count) (f ∷ fs) h
votes_joined count f fs same_is fewer_is is =
    IsLeastFor-same is
    (λ within. both_of (some_within f within) (same_is.some_within within) (fewer_is.some_within within)
    ∙ sym (one_vote count (count_within fs within) (some_within f within)))
