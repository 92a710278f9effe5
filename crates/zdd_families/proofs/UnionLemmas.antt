-- What follows from the definitions of `specs/Union`.
use Rattle.std.specs.Prelude.{◌≡◌, ◌⊎◌, ℕ, List, [], Contains}
use Rattle.std.proofs.Common.{inl, inr}
use Rattle.unit_sets.proofs.Sorted.{Contains-nil}
use Rattle.zdd_families.specs.Family.{IsFamily, IsAbove, branch}
use Rattle.zdd_families.proofs.FamilyLemmas.{IsFamily-branch, one_family}
use Rattle.zdd_families.proofs.Members.{branch-has_lo, branch-has_hi, branch_each}
use Rattle.zdd_families.specs.{Cuts.Cuts, Union.IsUnion}
use Rattle.zdd_families.proofs.CutsLemmas.{cut_each, cut_has_lo, cut_has_hi, set_above, each-from_contains}

pub union-one : (f g h h' : List (List ℕ)) → IsUnion f g h → IsUnion f g h' → h ≡ h'
union-one f g h h' is is' = one_family is.is_family is'.is_family is.sets is'.sets

-- ---- ends

from_none : {G : Type 0} (set : List ℕ) → Contains [] set ⊎ G → G
from_none set (inl none) = Contains-nil _ none
from_none set (inr has) = has

from_none_right : {G : Type 0} (set : List ℕ) → G ⊎ Contains [] set → G
from_none_right set (inl has) = has
from_none_right set (inr none) = Contains-nil _ none

from_same : {G : Type 0} → G ⊎ G → G
from_same (inl has) = has
from_same (inr has) = has

pub union-none : (g : List (List ℕ)) → IsFamily g → IsUnion [] g g
union-none g is = record { is_family = is; sets = λ set. (λ has. inr has, λ has. from_none set has) }

pub union-with_none : (f : List (List ℕ)) → IsFamily f → IsUnion f [] f
union-with_none f is = record { is_family = is; sets = λ set. (λ has. inl has, λ has. from_none_right set has) }

pub union-itself : (f : List (List ℕ)) → IsFamily f → IsUnion f f f
union-itself f is = record { is_family = is; sets = λ set. (λ has. inl has, λ has. from_same has) }

-- ---- the union of two families that are cut at one unit is the branch of the unions

pub union-above : (x : ℕ) {f g h : List (List ℕ)} → IsUnion f g h → IsAbove x f → IsAbove x g → IsAbove x h
union-above x {f} {g} {h} is above above' =
    each-from_contains _ _ (λ set has. elim ((is.sets set).0 has) [
      | inl of_f ↦ set_above _ _ _ above of_f
      | inr of_g ↦ set_above _ _ _ above' of_g
    ])

module _ (x : ℕ) (f f0 f1 g g0 g1 h0 h1 : List (List ℕ)) (cut : Cuts x f f0 f1) (cut' : Cuts x g g0 g1)
    (lo : IsUnion f0 g0 h0) (hi : IsUnion f1 g1 h1) where
  to : (set : List ℕ) → Contains (branch x h0 h1) set → Contains f set ⊎ Contains g set
  to =
      branch_each (λ q. Contains f q ⊎ Contains g q) x h0 h1
      (λ set has. elim ((lo.sets set).0 has) [
        | inl of_f ↦ inl (cut_has_lo _ cut of_f)
        | inr of_g ↦ inr (cut_has_lo _ cut' of_g)
      ])
      (λ rest has. elim ((hi.sets rest).0 has) [
        | inl of_f ↦ inl (cut_has_hi _ cut of_f)
        | inr of_g ↦ inr (cut_has_hi _ cut' of_g)
      ])

  from : (set : List ℕ) → Contains f set ⊎ Contains g set → Contains (branch x h0 h1) set
  from set (inl of_f) =
      cut_each (Contains (branch x h0 h1)) cut (λ set has. branch-has_lo _ _ _ _ ((lo.sets set).1 (inl has)))
      (λ rest has. branch-has_hi _ _ _ _ ((hi.sets rest).1 (inl has))) set of_f
  from set (inr of_g) =
      cut_each (Contains (branch x h0 h1)) cut' (λ set has. branch-has_lo _ _ _ _ ((lo.sets set).1 (inr has)))
      (λ rest has. branch-has_hi _ _ _ _ ((hi.sets rest).1 (inr has))) set of_g

  pub union-step : IsUnion f g (branch x h0 h1)
  union-step = record {
    is_family =
        IsFamily-branch _ _ _ lo.is_family hi.is_family (union-above x lo cut.lo_above cut'.lo_above)
        (union-above x hi cut.hi_above cut'.hi_above);
    sets = λ set. (to set, from set);
  }
