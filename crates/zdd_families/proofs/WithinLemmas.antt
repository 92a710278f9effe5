-- What follows from the definitions of `specs/Within`.
use Rattle.std.specs.Prelude.{◌≡◌, ℕ, zero, suc, ◌+◌, ◌≤◌, Bool, true, false, ◌&&◌, ◌||◌, nat_le, List, [], ◌∷◌}
use Rattle.std.specs.Prelude.{Contains}
use Rattle.std.specs.List.{list_all}
use Rattle.std.proofs.Common.{refl, sym, ◌∙◌, ap, inl, inr, arith, eq-eqb}
use Rattle.std.proofs.lemmas.Bool.{cases_Bool, or_cases, or_left, or_right, and_parts, and_from, eqb-true, cond-true}
use Rattle.std.proofs.lemmas.Bool.{cond-false, le-leb, leb-true}
use Rattle.unit_sets.specs.UnitList.{among, is_within, some_within}
use Rattle.unit_sets.proofs.UnitListLemmas.{among-from_is_within}
use Rattle.zdd_families.specs.{Family.IsFamily, Sets.joined, Inclusion.Includes, Union.IsUnion, Product.IsProduct}
use Rattle.zdd_families.specs.{Product.IsJoin, Minimal.IsMinimal, Votes.IsVotes, Votes.IsChoice, Within.count_within}
use Rattle.zdd_families.proofs.CutsLemmas.{found_in, test_from}
use Rattle.zdd_families.proofs.{SetsLemmas.among-joined, InclusionLemmas.same_Bool, MinimalLemmas.minimal-covers}

-- a set of the family whose units all pass
pub record HasWithin (family : List (List ℕ)) (within : ℕ → Bool) : Type 0 where
  pub set : List ℕ
  pub has : Contains family set
  pub passes : list_all within set ≡ true

pub HasWithin-from_test : (family : List (List ℕ)) {within : ℕ → Bool} → some_within family within ≡ true
    → HasWithin family within
HasWithin-from_test family {within} h =
    let found = found_in (list_all within) family h in
    record { set = found.of; has = found.has; passes = found.passes }

pub some_within-from_set : (family : List (List ℕ)) (within : ℕ → Bool) (set : List ℕ) → Contains family set
    → list_all within set ≡ true → some_within family within ≡ true
some_within-from_set family within set has passes = test_from (list_all within) family set has passes

-- where each set of a family is one of another
pub some_within-more : (f h : List (List ℕ)) (within : ℕ → Bool) → ((set : List ℕ) → Contains f set → Contains h set)
    → some_within f within ≡ true → some_within h within ≡ true
some_within-more f h within more t =
    let found = HasWithin-from_test f t in
    some_within-from_set h within found.set (more found.set found.has) found.passes

-- ---- a test of each unit of a set

pub passes_at : (within : ℕ → Bool) (set : List ℕ) (unit : ℕ) → list_all within set ≡ true → among set unit ≡ true
    → within unit ≡ true
passes_at within [] unit passes h = absurd cc
passes_at within (first ∷ set) unit passes h =
    let both : (within first ≡ true) × (list_all within set ≡ true) = and_parts _ _ passes in
    elim (or_cases _ _ h) [
      | inl here ↦ ap within (sym (eqb-true _ _ here)) ∙ both.0
      | inr later ↦ passes_at within set unit both.1 later
    ]

pub passes_from : (within : ℕ → Bool) (set : List ℕ) → ((unit : ℕ) → among set unit ≡ true → within unit ≡ true)
    → list_all within set ≡ true
passes_from within [] each = refl
passes_from within (first ∷ set) each =
    and_from _ _ (each first (or_left _ _ (eq-eqb first first refl)))
    (passes_from within set (λ unit h. each unit (or_right _ _ h)))

-- a set within one whose units pass has units that pass
pub passes_within : (within : ℕ → Bool) (set part : List ℕ) → is_within set part ≡ true → list_all within set ≡ true
    → list_all within part ≡ true
passes_within within set part h passes =
    passes_from within part (λ unit has. passes_at within set unit passes (among-from_is_within set part unit h has))

pub passes-joined : (within : ℕ → Bool) (a b : List ℕ) → list_all within a ≡ true → list_all within b ≡ true
    → list_all within (joined a b) ≡ true
passes-joined within a b passes passes' =
    passes_from within (joined a b) (λ unit h.
    elim (or_cases _ _ (sym (among-joined a b unit) ∙ h)) [
      | inl of_a ↦ passes_at within a unit passes of_a
      | inr of_b ↦ passes_at within b unit passes' of_b
    ])

pub passes-left : (within : ℕ → Bool) (a b : List ℕ) → list_all within (joined a b) ≡ true → list_all within a ≡ true
passes-left within a b passes =
    passes_from within a (λ unit h. passes_at within (joined a b) unit passes
    (among-joined a b unit ∙ or_left _ _ h))

pub passes-right : (within : ℕ → Bool) (a b : List ℕ) → list_all within (joined a b) ≡ true → list_all within b ≡ true
passes-right within a b passes =
    passes_from within b (λ unit h. passes_at within (joined a b) unit passes
    (among-joined a b unit ∙ or_right _ _ h))

-- ---- a union is true where either family is

pub some_within-union : (f g h : List (List ℕ)) (within : ℕ → Bool) → IsUnion f g h
    → some_within h within ≡ (some_within f within || some_within g within)
some_within-union f g h within is =
    same_Bool _ _ (λ t.
    let found : HasWithin h within = HasWithin-from_test h t in
    elim ((is.sets found.set).0 found.has) [
      | inl of_f ↦ or_left _ _ (some_within-from_set _ _ _ of_f found.passes)
      | inr of_g ↦ or_right _ _ (some_within-from_set _ _ _ of_g found.passes)
    ])
    (λ t. elim (or_cases _ _ t) [
      | inl of_f ↦ some_within-more f h within (λ set has. (is.sets set).1 (inl has)) of_f
      | inr of_g ↦ some_within-more g h within (λ set has. (is.sets set).1 (inr has)) of_g
    ])

-- ---- a product is true where both are

join_hit : (f g : List (List ℕ)) (within : ℕ → Bool) (set : List ℕ) → IsJoin f g set → list_all within set ≡ true
    → (some_within f within && some_within g within) ≡ true
join_hit f g within set join passes =
    let both : list_all within (joined join.first join.second) ≡ true = ap (list_all within) (sym join.is) ∙ passes in
    and_from _ _
    (some_within-from_set f within join.first join.of_f (passes-left within join.first join.second both))
    (some_within-from_set g within join.second join.of_g (passes-right within join.first join.second both))

hit_join : {f g h : List (List ℕ)} {within : ℕ → Bool} → IsProduct f g h → HasWithin f within → HasWithin g within
    → some_within h within ≡ true
hit_join {h} {within} is first second =
    some_within-from_set h within (joined first.set second.set)
    ((is.sets (joined first.set second.set)).1 (record {
      first = first.set;
      second = second.set;
      of_f = first.has;
      of_g = second.has;
      is = refl;
    }))
    (passes-joined within first.set second.set first.passes second.passes)

pub some_within-product : (f g h : List (List ℕ)) (within : ℕ → Bool) → IsProduct f g h
    → some_within h within ≡ (some_within f within && some_within g within)
some_within-product f g h within is =
    same_Bool _ _ (λ t. let found : HasWithin h within = HasWithin-from_test h t in
    join_hit f g within found.set ((is.sets found.set).0 found.has) found.passes)
    (λ t.
    let both : (some_within f within ≡ true)
    × (some_within g within ≡ true) = and_parts _ _ t in
    hit_join is (HasWithin-from_test f both.0) (HasWithin-from_test g both.1))

-- ---- the minimal sets are true where the family is

covered_hit : (least : List (List ℕ)) (within : ℕ → Bool) (set : List ℕ) → Includes least set
    → list_all within set ≡ true → some_within least within ≡ true
covered_hit least within set found passes =
    some_within-from_set least within found.part found.has (passes_within within set found.part found.within passes)

pub some_within-minimal : (f least : List (List ℕ)) (within : ℕ → Bool) → IsFamily f → IsMinimal f least
    → some_within least within ≡ some_within f within
some_within-minimal f least within is_family is =
    same_Bool _ _ (some_within-more least f within (λ set has. ((is.sets set).0 has).0))
    (λ t. let found : HasWithin f within = HasWithin-from_test f t in
    covered_hit least within found.set (minimal-covers f least is_family is found.set found.has) found.passes)

-- ---- votes are true where that many families are

counted : (family : List (List ℕ)) (families : List (List (List ℕ))) (within : ℕ → Bool) → some_within family within
    ≡ true
    → count_within (family ∷ families) within ≡ 1 + count_within families within
counted family families within h =
    ap (λ n. n + count_within families within) (cond-true _ _ _ h)

pub choice_counted : (families : List (List (List ℕ))) (within : ℕ → Bool) (count : ℕ) (set : List ℕ)
    → IsChoice families count set → list_all within set ≡ true → count ≤ count_within families within
choice_counted families within zero set chosen passes = omega arith
choice_counted [] within (suc count) set chosen passes = absurd chosen
choice_counted (family ∷ families) within (suc count) set (inl skipped) passes =
    let k = choice_counted families within (suc count) set skipped passes in omega (arith, k)
choice_counted (family ∷ families) within (suc count) set (inr (first, rest, has, chosen, same)) passes =
    let both : list_all within (joined first rest) ≡ true = ap (list_all within) (sym same) ∙ passes in
    let k : count ≤ count_within families within =
    choice_counted families within count rest chosen (passes-right within first rest both) in
    let e : count_within (family ∷ families) within ≡ 1 + count_within families within =
    counted family families within (some_within-from_set family within first has
    (passes-left within first rest both)) in
    omega (arith, k, e)

-- a choice whose units all pass
pub record HasChoice (families : List (List (List ℕ))) (within : ℕ → Bool) (count : ℕ) : Type 0 where
  pub set : List ℕ
  pub chosen : IsChoice families count set
  pub passes : list_all within set ≡ true

skip_one : {family : List (List ℕ)} {families : List (List (List ℕ))} {within : ℕ → Bool} (count : ℕ)
    → HasChoice families within count → HasChoice (family ∷ families) within count
skip_one zero found = record { set = found.set; chosen = found.chosen; passes = found.passes }
skip_one (suc count) found =
    record { set = found.set; chosen = inl found.chosen; passes = found.passes }

take_one : {family : List (List ℕ)} {families : List (List (List ℕ))} {within : ℕ → Bool} {count : ℕ}
    → HasWithin family within → HasChoice families within count → HasChoice (family ∷ families) within (suc count)
take_one {within} first rest = record {
  set = joined first.set rest.set;
  chosen = inr (first.set, rest.set, first.has, rest.chosen, refl);
  passes = passes-joined within first.set rest.set first.passes rest.passes;
}

uncounted : (family : List (List ℕ)) (families : List (List (List ℕ))) (within : ℕ → Bool) → some_within family within
    ≡ false
    → count_within (family ∷ families) within ≡ count_within families within
uncounted family families within h =
    ap (λ n. n + count_within families within) (cond-false _ _ _ h) ∙ (omega arith)

pub counted_choice : (families : List (List (List ℕ))) {within : ℕ → Bool} (count : ℕ)
    → count ≤ count_within families within → HasChoice families within count
counted_choice [] zero h = record { set = []; chosen = refl; passes = refl }
counted_choice [] (suc count) h = absurd (omega arith)
counted_choice (family ∷ families) zero h = skip_one zero (counted_choice families zero (omega arith))
counted_choice (family ∷ families) {within} (suc count) h =
    elim (cases_Bool (some_within family within)) [
      | inl hit ↦
          take_one (HasWithin-from_test family hit)
          (counted_choice families count (let e = counted family families within hit in omega (arith, e, h)))
      | inr missed ↦
          skip_one (suc count) (counted_choice families (suc count) (let e = uncounted family families within missed in
          omega (arith, e, h)))
    ]

pub some_within-votes : (count : ℕ) (families : List (List (List ℕ))) (h : List (List ℕ)) (within : ℕ → Bool)
    → IsVotes count families h → some_within h within ≡ nat_le count (count_within families within)
some_within-votes count families h within is =
    same_Bool _ _ (λ t.
    let found : HasWithin h within = HasWithin-from_test h t in
    le-leb _ _ (choice_counted families within count found.set
    ((is.sets found.set).0 found.has) found.passes))
    (λ t.
    let found : HasChoice families within count = counted_choice families count (leb-true _ _ t) in
    some_within-from_set _ _ _ ((is.sets found.set).1 found.chosen) found.passes)
