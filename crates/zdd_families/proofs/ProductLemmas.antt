-- What follows from the definitions of `specs/Product`.
use Rattle.std.specs.Prelude.{◌≡◌, ℕ, List, [], ◌∷◌, Contains}
use Rattle.std.proofs.Common.{refl, sym, ◌∙◌, ap, subst, inl, inr}
use Rattle.unit_sets.proofs.Sorted.{Contains-nil, Contains-cons_first}
use Rattle.zdd_families.specs.Family.{IsFamily, IsAbove, IsSetAbove, branch}
use Rattle.zdd_families.proofs.FamilyLemmas.{IsFamily-branch, IsFamily-nil, one_family}
use Rattle.zdd_families.proofs.Members.{branch-has_lo, branch-has_hi, branch_each}
use Rattle.zdd_families.specs.{Cuts.Cuts, Sets.joined}
use Rattle.zdd_families.proofs.CutsLemmas.{cut_each, cut_has_lo, cut_has_hi, set_above, set_rises}
use Rattle.zdd_families.proofs.CutsLemmas.{each-from_contains, only_empty}
use Rattle.zdd_families.proofs.SetsLemmas.{joined-left, joined-right, joined-both, joined-nil, IsSetAbove-joined}
use Rattle.zdd_families.proofs.UnionLemmas.{union-above}
use Rattle.zdd_families.specs.Product.{IsJoin, IsProduct, IsProductOfParts}

pub product-one : (f g h h' : List (List ℕ)) → IsProduct f g h → IsProduct f g h' → h ≡ h'
product-one f g h h' is is' = one_family is.is_family is'.is_family is.sets is'.sets

-- the union of a set of each family is a set of the product
pub product-has : {f g h : List (List ℕ)} → IsProduct f g h → (a b : List ℕ) → Contains f a → Contains g b
    → Contains h (joined a b)
product-has is a b of_f of_g =
    (is.sets (joined a b)).1 (record { first = a; second = b; of_f = of_f; of_g = of_g; is = refl })

-- ---- ends

pub product-none : (g : List (List ℕ)) → IsProduct [] g []
product-none g =
    record {
      is_family = IsFamily-nil;
      sets = λ set.
          (λ has. Contains-nil set has, λ join. Contains-nil join.first join.of_f);
    }

pub product-with_none : (f : List (List ℕ)) → IsProduct f [] []
product-with_none f =
    record {
      is_family = IsFamily-nil;
      sets = λ set.
          (λ has. Contains-nil set has, λ join. Contains-nil join.second join.of_g);
    }

from_unit : (g : List (List ℕ)) (set : List ℕ) → IsJoin ([] ∷ []) g set → Contains g set
from_unit g set join =
    subst (Contains g) (sym (join.is ∙ ap (λ q. joined q join.second) (sym (only_empty join.first join.of_f))))
    join.of_g

pub product-unit : (g : List (List ℕ)) → IsFamily g → IsProduct ([] ∷ []) g g
product-unit g is = record {
  is_family = is;
  sets =
      λ set. (
        λ has. record { first = []; second = set; of_f = Contains-cons_first [] []; of_g = has; is = refl },
        from_unit g set,
      );
}

from_with_unit : {f : List (List ℕ)} (set : List ℕ) → IsFamily f → IsJoin f ([] ∷ []) set → Contains f set
from_with_unit {f} set is join =
    subst (Contains f)
    (sym (join.is ∙ ap (λ q. joined join.first q) (sym (only_empty join.second join.of_g))
    ∙ joined-nil _ (set_rises _ is join.of_f))) join.of_f

pub product-with_unit : (f : List (List ℕ)) → IsFamily f → IsProduct f ([] ∷ []) f
product-with_unit f is = record {
  is_family = is;
  sets =
      λ set. (
        λ has. record {
          first = set;
          second = [];
          of_f = has;
          of_g = Contains-cons_first [] [];
          is = sym (joined-nil _ (set_rises _ is has));
        },
        from_with_unit set is,
      );
}

-- ---- the product of two families that are cut at one unit

pub product-above : (x : ℕ) {f g h : List (List ℕ)} → IsProduct f g h → IsAbove x f → IsAbove x g → IsAbove x h
product-above x {f} {g} {h} is above above' =
    each-from_contains _ _ (λ set has.
    let join : IsJoin f g set = (is.sets set).0 has in
    subst (IsSetAbove x) (sym join.is)
    (IsSetAbove-joined _ _ _ (set_above _ _ _ above join.of_f)
    (set_above _ _ _ above' join.of_g)))

module _ (x : ℕ) (f f0 f1 g g0 g1 h0 h1 : List (List ℕ)) (cut : Cuts x f f0 f1) (cut' : Cuts x g g0 g1)
    (lo_family : IsFamily g0) (hi_family : IsFamily g1) (parts : IsProductOfParts f0 f1 g0 g1 h0 h1) where
  -- ---- each set of the branch is a union

  both_at : {a b : List ℕ} → Contains f1 a → Contains g1 b → joined (x ∷ a) (x ∷ b) ≡ x ∷ joined a b
  both_at of_f of_g =
      joined-both _ _ _ (set_above _ _ _ cut.hi_above of_f) (set_above _ _ _ cut'.hi_above of_g)
      (set_rises _ hi_family of_g)

  first_at : {a b : List ℕ} → Contains f1 a → Contains g0 b → joined (x ∷ a) b ≡ x ∷ joined a b
  first_at of_f of_g =
      joined-left _ _ _ (set_above _ _ _ cut.hi_above of_f) (set_above _ _ _ cut'.lo_above of_g)
      (set_rises _ lo_family of_g)

  second_at : {a b : List ℕ} → Contains f0 a → Contains g1 b → joined a (x ∷ b) ≡ x ∷ joined a b
  second_at of_f of_g =
      joined-right _ _ _ (set_above _ _ _ cut.lo_above of_f) (set_above _ _ _ cut'.hi_above of_g)
      (set_rises _ hi_family of_g)

  both_to : {rest : List ℕ} → IsJoin f1 g1 rest → IsJoin f g (x ∷ rest)
  both_to join = record {
    first = x ∷ join.first;
    second = x ∷ join.second;
    of_f = cut_has_hi _ cut join.of_f;
    of_g = cut_has_hi _ cut' join.of_g;
    is = ap (λ q. x ∷ q) join.is ∙ sym (both_at join.of_f join.of_g);
  }

  first_to : {rest : List ℕ} → IsJoin f1 g0 rest → IsJoin f g (x ∷ rest)
  first_to join = record {
    first = x ∷ join.first;
    second = join.second;
    of_f = cut_has_hi _ cut join.of_f;
    of_g = cut_has_lo _ cut' join.of_g;
    is = ap (λ q. x ∷ q) join.is ∙ sym (first_at join.of_f join.of_g);
  }

  second_to : {rest : List ℕ} → IsJoin f0 g1 rest → IsJoin f g (x ∷ rest)
  second_to join = record {
    first = join.first;
    second = x ∷ join.second;
    of_f = cut_has_lo _ cut join.of_f;
    of_g = cut_has_hi _ cut' join.of_g;
    is = ap (λ q. x ∷ q) join.is ∙ sym (second_at join.of_f join.of_g);
  }

  none_to : {set : List ℕ} → IsJoin f0 g0 set → IsJoin f g set
  none_to join = record {
    first = join.first;
    second = join.second;
    of_f = cut_has_lo _ cut join.of_f;
    of_g = cut_has_lo _ cut' join.of_g;
    is = join.is;
  }

  with_to : (rest : List ℕ) → Contains h1 rest → IsJoin f g (x ∷ rest)
  with_to rest has =
      elim ((parts.all_is.sets rest).0 has) [
        | inl some ↦ elim ((parts.some_is.sets rest).0 some) [
          | inl both ↦ both_to ((parts.both_is.sets rest).0 both)
          | inr first ↦ first_to ((parts.first_is.sets rest).0 first)
        ]
        | inr second ↦ second_to ((parts.second_is.sets rest).0 second)
      ]

  to : (set : List ℕ) → Contains (branch x h0 h1) set → IsJoin f g set
  to = branch_each (IsJoin f g) x h0 h1 (λ set has. none_to ((parts.none_is.sets set).0 has)) with_to

  -- ---- each union is a set of the branch

  some_into : (rest : List ℕ) → Contains parts.some_with rest → Contains (branch x h0 h1) (x ∷ rest)
  some_into rest has = branch-has_hi _ _ _ _ ((parts.all_is.sets rest).1 (inl has))

  both_from : (a b : List ℕ) → Contains f1 a → Contains g1 b → Contains (branch x h0 h1) (joined (x ∷ a) (x ∷ b))
  both_from a b of_f of_g =
      subst (Contains (branch x h0 h1)) (sym (both_at of_f of_g)) (some_into _ ((parts.some_is.sets (joined a b)).1
      (inl (product-has parts.both_is a b of_f of_g))))

  first_from : (a b : List ℕ) → Contains f1 a → Contains g0 b → Contains (branch x h0 h1) (joined (x ∷ a) b)
  first_from a b of_f of_g =
      subst (Contains (branch x h0 h1)) (sym (first_at of_f of_g)) (some_into _ ((parts.some_is.sets (joined a b)).1
      (inr (product-has parts.first_is a b of_f of_g))))

  second_from : (a b : List ℕ) → Contains f0 a → Contains g1 b → Contains (branch x h0 h1) (joined a (x ∷ b))
  second_from a b of_f of_g =
      subst (Contains (branch x h0 h1)) (sym (second_at of_f of_g)) (branch-has_hi _ _ _ _
      ((parts.all_is.sets (joined a b)).1 (inr (product-has parts.second_is a b of_f of_g))))

  none_from : (a b : List ℕ) → Contains f0 a → Contains g0 b → Contains (branch x h0 h1) (joined a b)
  none_from a b of_f of_g = branch-has_lo _ _ _ _ (product-has parts.none_is a b of_f of_g)

  from : (set : List ℕ) → IsJoin f g set → Contains (branch x h0 h1) set
  from set join =
      subst (Contains (branch x h0 h1)) (sym join.is)
      (cut_each (λ a. Contains (branch x h0 h1) (joined a join.second)) cut
      (λ a of_f. cut_each (λ b. Contains (branch x h0 h1) (joined a b)) cut' (λ b of_g. none_from a b of_f of_g)
      (λ b of_g. second_from a b of_f of_g) join.second join.of_g)
      (λ a of_f. cut_each (λ b. Contains (branch x h0 h1) (joined (x ∷ a) b)) cut' (λ b of_g. first_from a b of_f of_g)
      (λ b of_g. both_from a b of_f of_g) join.second join.of_g) join.first join.of_f)

  lo_above : IsAbove x h0
  lo_above = product-above x parts.none_is cut.lo_above cut'.lo_above

  hi_above : IsAbove x h1
  hi_above =
      union-above x parts.all_is (union-above x parts.some_is (product-above x parts.both_is cut.hi_above cut'.hi_above)
      (product-above x parts.first_is cut.hi_above cut'.lo_above))
      (product-above x parts.second_is cut.lo_above cut'.hi_above)

  pub product-step : IsProduct f g (branch x h0 h1)
  product-step = record {
    is_family = IsFamily-branch _ _ _ parts.none_is.is_family parts.all_is.is_family lo_above hi_above;
    sets = λ set. (to set, from set);
  }
