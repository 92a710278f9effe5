-- What follows from the definitions of `specs/Without`.
use Rattle.std.specs.Prelude.{◌≡◌, ℕ, false, List, [], ◌∷◌, Contains}
use Rattle.std.proofs.Common.{refl, sym, ◌∙◌, ap}
use Rattle.std.proofs.lemmas.Bool.{or_parts, or_from, false≢true, true≢false}
use Rattle.unit_sets.proofs.Sorted.{Contains-nil}
use Rattle.zdd_families.specs.Family.{IsFamily, IsAbove, branch}
use Rattle.zdd_families.proofs.FamilyLemmas.{IsFamily-branch, IsFamily-nil}
use Rattle.zdd_families.proofs.FamilyLemmas.{IsFamily-unit, one_family}
use Rattle.zdd_families.proofs.Members.{branch-has_lo, branch-has_hi, branch_each}
use Rattle.zdd_families.specs.{Cuts.Cuts, Inclusion.includes_one, Without.IsWithout}
use Rattle.zdd_families.proofs.CutsLemmas.{cut_each, cut_has_lo, cut_has_hi, set_above, each-from_contains}
use Rattle.zdd_families.proofs.CutsLemmas.{only_empty}
use Rattle.zdd_families.proofs.InclusionLemmas.{includes_one-above, includes_one-with, test-from_part}

pub without-one : (f g h h' : List (List ℕ)) → IsWithout f g h → IsWithout f g h' → h ≡ h'
without-one f g h h' is is' = one_family is.is_family is'.is_family is.sets is'.sets

-- ---- ends

pub without-none : (g : List (List ℕ)) → IsWithout [] g []
without-none g =
    record { is_family = IsFamily-nil; sets = λ set. (λ has. Contains-nil set has, λ both. Contains-nil set both.0) }

pub without-nothing : (f : List (List ℕ)) → IsFamily f → IsWithout f [] f
without-nothing f is = record { is_family = is; sets = λ set. (λ has. (has, refl), λ both. both.0) }

-- every set includes the empty set
pub without-unit : (f : List (List ℕ)) → IsWithout f ([] ∷ []) []
without-unit f = record {
  is_family = IsFamily-nil;
  sets = λ set. (λ has. Contains-nil set has, λ both. absurd (true≢false both.1));
}

-- of the empty set alone nothing is left where it is a set of g, and else all
pub unit-without : (g : List (List ℕ)) → Contains g [] → IsWithout ([] ∷ []) g []
unit-without g has = record {
  is_family = IsFamily-nil;
  sets = λ set. (
    λ none. Contains-nil set none,
    λ both. absurd (false≢true (sym both.1 ∙ ap (includes_one g) (sym (only_empty set both.0))
        ∙ test-from_part g [] [] has refl)),
  );
}

pub unit-without_other : (g : List (List ℕ)) → includes_one g [] ≡ false → IsWithout ([] ∷ []) g ([] ∷ [])
unit-without_other g none = record {
  is_family = IsFamily-unit;
  sets = λ set. (λ has. (has, ap (includes_one g) (sym (only_empty set has)) ∙ none), λ both. both.0);
}

-- ---- steps

pub without-above : (x : ℕ) {f g h : List (List ℕ)} → IsWithout f g h → IsAbove x f → IsAbove x h
without-above x {f} {h} is above =
    each-from_contains _ _ (λ set has. set_above x f set above ((is.sets set).0 has).0)

-- where f is above x, only the sets of g without x matter
pub without-lower : (x : ℕ) (f g g0 g1 h : List (List ℕ)) → Cuts x g g0 g1 → IsAbove x f → IsWithout f g0 h
    → IsWithout f g h
without-lower x f g g0 g1 h cut above is = record {
  is_family = is.is_family;
  sets = λ set. (
    λ has. let both =
        (is.sets set).0 has in (both.0, includes_one-above cut set (set_above _ _ _ above both.0) ∙ both.1),
    λ both. (is.sets set).1 (
      both.0,
      sym (includes_one-above cut set (set_above _ _ _ above both.0))
          ∙ both.1,
    ),
  );
}

module _ (x : ℕ) (f f0 f1 g g0 g1 h0 w h1 : List (List ℕ)) (cut : Cuts x f f0 f1) (cut' : Cuts x g g0 g1)
    (lo : IsWithout f0 g0 h0) (some : IsWithout f1 g1 w) (hi : IsWithout w g0 h1) where
  lo_to : (set : List ℕ) → Contains h0 set → Contains f set × (includes_one g set ≡ false)
  lo_to set has =
      let both = (lo.sets set).0 has in (
        cut_has_lo _ cut both.0,
        includes_one-above cut' set (set_above _ _ _ cut.lo_above both.0) ∙ both.1,
      )

  hi_to : (rest : List ℕ) → Contains h1 rest → Contains f (x ∷ rest) × (includes_one g (x ∷ rest) ≡ false)
  hi_to rest has =
      let outer = (hi.sets rest).0 has in
      let inner = (some.sets rest).0 outer.0 in (
        cut_has_hi _ cut inner.0,
        includes_one-with cut' rest (set_above _ _ _ cut.hi_above inner.0)
            ∙ or_from _ _ inner.1 outer.1,
      )

  to : (set : List ℕ) → Contains (branch x h0 h1) set → Contains f set × (includes_one g set ≡ false)
  to =
      branch_each (λ q. Contains f q × (includes_one g q ≡ false)) x h0 h1 lo_to hi_to

  hi_from : (rest : List ℕ) → Contains f1 rest → includes_one g (x ∷ rest) ≡ false
      → Contains (branch x h0 h1) (x ∷ rest)
  hi_from rest has none =
      let parts =
      or_parts _ _ (sym (includes_one-with cut' rest (set_above _ _ _ cut.hi_above has)) ∙ none) in
      branch-has_hi _ _ _ _ ((hi.sets rest).1 ((some.sets rest).1 (has, parts.0), parts.1))

  from : (set : List ℕ) → Contains f set → includes_one g set ≡ false → Contains (branch x h0 h1) set
  from =
      cut_each (λ q. includes_one g q ≡ false → Contains (branch x h0 h1) q) cut
      (λ set of_lo none. branch-has_lo _ _ _ _ ((lo.sets set).1
      (of_lo, sym (includes_one-above cut' set (set_above _ _ _ cut.lo_above of_lo)) ∙ none))) hi_from

  pub without-step : IsWithout f g (branch x h0 h1)
  without-step = record {
    is_family = IsFamily-branch _ _ _ lo.is_family hi.is_family (without-above x lo cut.lo_above)
        (without-above x hi (without-above x some cut.hi_above));
    sets = λ set. (to set, λ both. from set both.0 both.1);
  }
