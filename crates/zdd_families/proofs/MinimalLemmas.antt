-- What follows from the definitions of `specs/Minimal`.
use Rattle.std.specs.Prelude.{◌≡◌, ℕ, zero, suc, ◌<◌, ◌≤◌, true, false, not, List, [], ◌∷◌, Contains}
use Rattle.std.specs.Prelude.{Bool, ◌&&◌, length}
use Rattle.std.specs.List.{list_any}
use Rattle.std.proofs.Common.{sym, ◌∙◌, ap, inl, inr, arith}
use Rattle.std.proofs.lemmas.Bool.{cases_Bool, false_from_ne_true, false≢true, and_parts, and_from, not-true}
use Rattle.std.proofs.lemmas.Bool.{not_from_false}
use Rattle.unit_sets.specs.UnitList.{is_within}
use Rattle.unit_sets.proofs.Sorted.{Contains-nil}
use Rattle.zdd_families.specs.Family.{IsFamily, IsAbove, IsSetAbove, branch}
use Rattle.zdd_families.proofs.FamilyLemmas.{IsFamily-branch, IsFamily-nil}
use Rattle.zdd_families.proofs.FamilyLemmas.{IsFamily-unit, one_family}
use Rattle.zdd_families.proofs.Members.{branch-has_lo, branch-has_hi, branch_each}
use Rattle.zdd_families.specs.{Cuts.Cuts, Inclusion.includes_one, Inclusion.Includes, Without.IsWithout}
use Rattle.zdd_families.proofs.CutsLemmas.{cut_cases, cut_has_lo, cut_has_hi, set_above, set_rises}
use Rattle.zdd_families.proofs.CutsLemmas.{each-from_contains, not_with, only_empty, same_rest, Found, found_in}
use Rattle.zdd_families.proofs.CutsLemmas.{test_from}
use Rattle.zdd_families.proofs.CutsLemmas.{cut_each}
use Rattle.zdd_families.proofs.InclusionLemmas.{Includes-from_test, test-from_part, within_itself}
use Rattle.zdd_families.proofs.InclusionLemmas.{within_trans, same_within, within-with_first, within-with_both}
use Rattle.zdd_families.proofs.InclusionLemmas.{within-none, within-shorter}
use Rattle.zdd_families.proofs.WithoutLemmas.{without-above}
use Rattle.zdd_families.specs.Minimal.{IncludesNoOther, IsMinimal}

pub minimal-one : (f h h' : List (List ℕ)) → IsMinimal f h → IsMinimal f h' → h ≡ h'
minimal-one f h h' is is' = one_family is.is_family is'.is_family is.sets is'.sets

-- ---- ends

pub minimal-none : IsMinimal [] []
minimal-none = record { is_family = IsFamily-nil; sets = λ set. (λ has. Contains-nil set has, λ both. both.0) }

-- a family of which no set includes another is its own minimal sets
pub minimal-itself : {f : List (List ℕ)} → IsFamily f → ((set other : List ℕ) → Contains f set → Contains f other
    → is_within set other ≡ true → other ≡ set) → IsMinimal f f
minimal-itself is same = record {
  is_family = is;
  sets = λ set. (λ has. (has, λ other has' within. same set other has has' within), λ both. both.0);
}

pub minimal-unit : IsMinimal ([] ∷ []) ([] ∷ [])
minimal-unit = minimal-itself IsFamily-unit (λ set other has has' _. sym (only_empty other has') ∙ only_empty set has)

pub minimal-above : (x : ℕ) {f h : List (List ℕ)} → IsMinimal f h → IsAbove x f → IsAbove x h
minimal-above x {f} {h} is above =
    each-from_contains _ _ (λ set has. set_above x f set above ((is.sets set).0 has).0)

-- whether a set is within the other, and the other is not within it
abbrev is_smaller : List ℕ → List ℕ → Bool
is_smaller set other = is_within set other && not (is_within other set)

-- where no set is smaller, a set within this one is this one
none_smaller : {f : List (List ℕ)} (set : List ℕ) → IsFamily f → Contains f set → list_any (is_smaller set) f ≡ false
    → IncludesNoOther f set
none_smaller {f} set is has none other has' within =
    elim (cases_Bool (is_within other set)) [
      | inl back ↦ same_within (set_rises _ is has') (set_rises _ is has) back within
      | inr not_back ↦
          absurd (false≢true (sym none ∙ test_from (is_smaller set) f other has'
          (and_from _ _ within
          (not_from_false _ not_back))))
    ]

shorter : {f : List (List ℕ)} {set : List ℕ} → IsFamily f → Contains f set → (found : Found (is_smaller set) f)
    → length found.of < length set
shorter {set} is has found =
    let both : (is_within set found.of ≡ true) × (not (is_within found.of set) ≡ true) =
    and_parts _ _ found.passes in
    within-shorter _ _ (set_rises _ is has) (set_rises _ is found.has) both.0
    (not-true _ both.1)

within_smaller : {f : List (List ℕ)} (least : List (List ℕ)) {set : List ℕ} → (found : Found (is_smaller set) f)
    → Includes least found.of → Includes least set
within_smaller least {set} found deeper = record {
  part = deeper.part;
  has = deeper.has;
  within =
      within_trans set found.of deeper.part (and_parts _ _
      found.passes).0 deeper.within;
}

module _ (f least : List (List ℕ)) (is_family : IsFamily f) (is : IsMinimal f least) where
  itself : (set : List ℕ) → Contains f set → list_any (is_smaller set) f ≡ false → Includes least set
  itself set has none = record {
    part = set;
    has = (is.sets set).1 (has, none_smaller set is_family has none);
    within = within_itself set;
  }

  within_length : (n : ℕ) (set : List ℕ) → length set ≤ n → Contains f set → Includes least set
  within_length zero set short has =
      elim (cases_Bool (list_any (is_smaller set) f)) [
        | inl some ↦ absurd (let k = shorter is_family has (found_in (is_smaller set) f some) in omega (arith, k))
        | inr none ↦ itself set has none
      ]
  within_length (suc n) set short has =
      elim (cases_Bool (list_any (is_smaller set) f)) [
        | inl some ↦
            let found : Found (is_smaller set) f = found_in (is_smaller set) f some in
            within_smaller least found
            (within_length n found.of (let k = shorter is_family has found in omega (arith, k)) found.has)
        | inr none ↦ itself set has none
      ]

  -- each set of a family includes a minimal one
  pub minimal-covers : (set : List ℕ) → Contains f set → Includes least set
  minimal-covers set has = within_length (length set) set (omega arith) has

-- ---- a step

module _ (x : ℕ) (f f0 f1 h0 w h1 : List (List ℕ)) (cut : Cuts x f f0 f1) (lo_family : IsFamily f0)
    (lo : IsMinimal f0 h0) (some : IsMinimal f1 w) (hi : IsWithout w h0 h1) where
  -- ---- the sets of the branch are minimal

  no_other_lo : (set : List ℕ) → Contains f0 set → IncludesNoOther f0 set → IncludesNoOther f set
  no_other_lo set has least other has' within =
      elim (cut_cases _ cut has') [
        | inl of_lo ↦ least other of_lo within
        | inr with_x ↦ absurd (false≢true (sym (within-none _ _ _ (set_above _ _ _ cut.lo_above has))
            ∙ ap (is_within set) (sym with_x.1) ∙ within))
      ]

  -- a set without x that is within x and the rest would make the rest include a minimal one
  not_of_lo : {G : Type 0} (rest other : List ℕ) → includes_one h0 rest ≡ false → Contains f0 other
      → is_within (x ∷ rest) other ≡ true → G
  not_of_lo rest other none of_lo within =
      let within' : is_within rest other ≡ true =
      sym (within-with_first x rest other (set_above x f0 other cut.lo_above of_lo)) ∙ within in
      let deeper : Includes h0 other = minimal-covers f0 h0 lo_family lo other of_lo in
      absurd (false≢true (sym none ∙ test-from_part h0 rest deeper.part deeper.has
      (within_trans rest other deeper.part within' deeper.within)))

  no_other_hi : (rest : List ℕ) → Contains f1 rest → IncludesNoOther f1 rest → includes_one h0 rest ≡ false
      → IncludesNoOther f (x ∷ rest)
  no_other_hi rest has least none other has' within =
      elim (cut_cases _ cut has') [
        | inl of_lo ↦ not_of_lo rest other none of_lo within
        | inr with_x ↦
            with_x.1
            ∙ ap (λ q. x ∷ q)
            (least with_x.0 with_x.2
            (sym (within-with_both _ _ _ (set_above _ _ _ cut.hi_above with_x.2))
            ∙ ap (is_within (x ∷ rest)) (sym with_x.1) ∙ within))
      ]

  hi_to : (rest : List ℕ) → Contains h1 rest → Contains f (x ∷ rest) × IncludesNoOther f (x ∷ rest)
  hi_to rest has =
      let outer = (hi.sets rest).0 has in
      let inner = (some.sets rest).0 outer.0 in
      (cut_has_hi _ cut inner.0, no_other_hi rest inner.0 inner.1 outer.1)

  lo_to : (set : List ℕ) → Contains h0 set → Contains f set × IncludesNoOther f set
  lo_to set has =
      let both = (lo.sets set).0 has in
      (cut_has_lo _ cut both.0, no_other_lo set both.0 both.1)

  to : (set : List ℕ) → Contains (branch x h0 h1) set → Contains f set × IncludesNoOther f set
  to =
      branch_each (λ q. Contains f q × IncludesNoOther f q) x h0 h1 lo_to hi_to

  -- ---- the minimal sets are in the branch

  rest_least : (rest : List ℕ) → IncludesNoOther f (x ∷ rest) → IncludesNoOther f1 rest
  rest_least rest least other has within =
      same_rest (least (x ∷ other) (cut_has_hi _ cut has)
      (within-with_both _ _ _ (set_above _ _ _ cut.hi_above has) ∙ within))

  rest_includes_none : (rest : List ℕ) → IncludesNoOther f (x ∷ rest) → includes_one h0 rest ≡ true → ⊥
  rest_includes_none rest least h =
      let found : Includes h0 rest = Includes-from_test h0 rest h in
      let of_lo : Contains f0 found.part = ((lo.sets found.part).0 found.has).0 in
      let above : IsSetAbove x found.part = set_above _ _ _ cut.lo_above of_lo in
      not_with _ above (least found.part (cut_has_lo _ cut of_lo)
      (within-with_first _ _ _ above ∙ found.within))

  hi_from : (rest : List ℕ) → Contains f1 rest → IncludesNoOther f (x ∷ rest) → Contains (branch x h0 h1) (x ∷ rest)
  hi_from rest has least =
      branch-has_hi _ _ _ _ ((hi.sets rest).1 (
        (some.sets rest).1 (has, rest_least rest least),
        false_from_ne_true _ (rest_includes_none rest least),
      ))

  from : (set : List ℕ) → Contains f set → IncludesNoOther f set → Contains (branch x h0 h1) set
  from =
      cut_each (λ q. IncludesNoOther f q → Contains (branch x h0 h1) q) cut
      (λ set of_lo least. branch-has_lo _ _ _ _ ((lo.sets set).1
      (of_lo, λ other has' within. least other (cut_has_lo _ cut has') within))) hi_from

  pub minimal-step : IsMinimal f (branch x h0 h1)
  minimal-step = record {
    is_family = IsFamily-branch _ _ _ lo.is_family hi.is_family (minimal-above x lo cut.lo_above)
        (without-above x hi (minimal-above x some cut.hi_above));
    sets = λ set. (to set, λ both. from set both.0 both.1);
  }
