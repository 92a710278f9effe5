-- What follows from the definitions of `specs/Nodes`.
use Rattle.std.specs.Prelude.{◌≡◌, ℕ, Bool, true, ◌&&◌, ◌||◌, List, Contains}
use Rattle.std.proofs.Common.{refl, sym, ◌∙◌, inl, inr, arith}
use Rattle.std.proofs.lemmas.Bool.{cases_Bool, false_from_ne_true, or_cases, or_left, or_right}
use Rattle.unit_sets.specs.UnitList.{is_within, some_within}
use Rattle.zdd_families.specs.Family.{IsFamily, IsAbove, IsSetAbove, branch}
use Rattle.zdd_families.specs.{Cuts.Cuts, Inclusion.includes_one, Inclusion.Includes, Without.IsWithout}
use Rattle.zdd_families.specs.{Antichains.IsAntichain, Least.IsLeastFor, LeastNodes.IncludesNoneOf}
use Rattle.zdd_families.proofs.CutsLemmas.{cut_has_lo, cut_has_hi, set_above, not_with, same_rest}
use Rattle.zdd_families.proofs.WithinLemmas.{HasWithin, HasWithin-from_test, some_within-from_set, some_within-more}
use Rattle.zdd_families.proofs.WithinLemmas.{passes_within}
use Rattle.zdd_families.proofs.InclusionLemmas.{Includes-from_test, same_Bool, within-with_first}
use Rattle.zdd_families.proofs.InclusionLemmas.{within-with_both}
use Rattle.zdd_families.proofs.{MinimalLemmas.minimal-step, MinimalLemmas.minimal-itself, WithoutLemmas.without-above}
use Rattle.zdd_families.proofs.{CutAtUnit.some_within-cut}

-- what is left without such sets is all
pub without-all : {lo hi : List (List ℕ)} → IsFamily hi → IncludesNoneOf lo hi → IsWithout hi lo hi
without-all is none = record { is_family = is; sets = λ set. (λ has. (has, none set has), λ both. both.0) }

pub none_left : {f g h : List (List ℕ)} → IsWithout f g h → IncludesNoneOf g h
none_left is set has = ((is.sets set).0 has).1

-- a branch of antichains is one, where no set of hi includes a set of lo
pub antichain-branch : (x : ℕ) {lo hi : List (List ℕ)} → IsAbove x lo → IsAbove x hi → IsAntichain lo → IsAntichain hi
    → IncludesNoneOf lo hi → IsAntichain (branch x lo hi)
antichain-branch x {lo} {hi} above above' is is' none =
    minimal-step x (branch x lo hi) lo hi lo hi hi (record { is = refl; lo_above = above; hi_above = above' })
    is.is_family is is' (without-all is'.is_family none)

-- the parts of an antichain
module _ {x : ℕ} {f lo hi : List (List ℕ)} (cut : Cuts x f lo hi) (is : IsAntichain f) where
  no_other : {set other : List ℕ} → Contains f set → Contains f other → is_within set other ≡ true → other ≡ set
  no_other {set} {other} has has' within = ((is.sets set).0 has).1 other has' within

  pub antichain-lo : IsFamily lo → IsAntichain lo
  antichain-lo is_family =
      minimal-itself is_family
      (λ set other has has' within. no_other (cut_has_lo _ cut has) (cut_has_lo _ cut has') within)

  pub antichain-hi : IsFamily hi → IsAntichain hi
  antichain-hi is_family =
      minimal-itself is_family (λ set other has has' within.
      same_rest (no_other (cut_has_hi _ cut has) (cut_has_hi _ cut has')
      (within-with_both _ _ _ (set_above _ _ _ cut.hi_above has') ∙ within)))

  not_included : (set : List ℕ) → Contains hi set → includes_one lo set ≡ true → ⊥
  not_included set has t =
      let found : Includes lo set = Includes-from_test lo set t in
      let above : IsSetAbove x found.part = set_above _ _ _ cut.lo_above found.has in
      not_with _ above (no_other (cut_has_hi _ cut has) (cut_has_lo _ cut found.has)
      (within-with_first _ _ _ above ∙ found.within))

  pub hi_includes_none : IncludesNoneOf lo hi
  hi_includes_none set has = false_from_ne_true _ (not_included set has)

-- ---- what is left of an antichain

pub antichain-without : (f g h : List (List ℕ)) → IsAntichain f → IsWithout f g h → IsAntichain h
antichain-without f g h is without =
    minimal-itself without.is_family (λ set other has has' within.
    ((is.sets set).0 ((without.sets set).0 has).0).1 other ((without.sets other).0 has').0 within)

-- only what the other family says of the sets of the first matters
pub without-same : {f g g' h : List (List ℕ)}
    → ((set : List ℕ) → Contains f set → includes_one g set ≡ includes_one g' set) → IsWithout f g h → IsWithout f g' h
without-same same is = record {
  is_family = is.is_family;
  sets = λ set. (
    λ has. let both = (is.sets set).0 has in (both.0, sym (same set both.0) ∙ both.1),
    λ both. (is.sets set).1 (both.0, same set both.0 ∙ both.1),
  );
}

-- ---- where what is left is true, beside what it was rid of

left_or_hit : {f g h : List (List ℕ)} {within : ℕ → Bool} → IsWithout f g h → HasWithin f within
    → (some_within g within || some_within h within) ≡ true
left_or_hit {g} {h} {within} is found =
    elim (cases_Bool (includes_one g found.set)) [
      | inl t ↦
          let part : Includes g found.set = Includes-from_test g found.set t in
          or_left _ _ (some_within-from_set g within part.part part.has
          (passes_within within found.set part.part part.within found.passes))
      | inr none ↦ or_right _ _
          (some_within-from_set h within found.set ((is.sets found.set).1 (found.has, none)) found.passes)
    ]

module _ {f g h : List (List ℕ)} (is : IsWithout f g h) (within : ℕ → Bool) where
  -- a set of the first that includes one of the other is true by that
  pub some_within-left : (some_within g within || some_within h within) ≡ (some_within g within || some_within f within)
  some_within-left =
      same_Bool _ _ (λ t. elim (or_cases _ _ t) [
        | inl of_g ↦ or_left _ _ of_g
        | inr of_h ↦ or_right _ _ (some_within-more h f within (λ set has. ((is.sets set).0 has).0) of_h)
      ])
      (λ t. elim (or_cases _ _ t) [
        | inl of_g ↦ or_left _ _ of_g
        | inr of_f ↦ left_or_hit is (HasWithin-from_test f of_f)
      ])

-- ---- a node

-- The minimal family of what is true without x where the first test says, and with x where the second says
-- too: hi is the second's without the sets that include one of lo.
pub least-node : (x : ℕ) {lo all hi : List (List ℕ)} {p q : (ℕ → Bool) → Bool} → IsAbove x lo → IsAbove x all
    → IsLeastFor p lo → IsLeastFor q all → IsWithout all lo hi
    → IsLeastFor (λ within. p within || (within x && q within)) (branch x lo hi)
least-node x {lo} {all} {hi} {p} above above' is is' left = record {
  antichain =
      antichain-branch x above (without-above x left above') is.antichain
      (antichain-without all lo hi is'.antichain left) (none_left left);
  some_within = λ within.
      let cut = some_within-cut {x = x} {f = branch x lo hi} {lo = lo} {hi = hi}
      (record { is = refl; lo_above = above; hi_above = without-above x left above' }) within in
      let rest = some_within-left left within in
      let e = is.some_within within in
      let e' = is'.some_within within in
      grind (arith, cut, rest, e, e');
}
