-- What follows from the definitions of `specs/Steps`.
use Rattle.std.specs.Prelude.{◌≡◌, ℕ, Bool, true, ◌&&◌, ◌||◌, List, Contains}
use Rattle.std.proofs.Common.{sym, ◌∙◌, ap, arith}
use Rattle.std.proofs.lemmas.Bool.{and_parts}
use Rattle.unit_sets.specs.UnitList.{among, some_within}
use Rattle.zdd_families.specs.Family.{IsFamily, IsAbove, branch}
use Rattle.zdd_families.specs.{Cuts.Cuts, Without.IsWithout, Antichains.IsAntichain, Least.IsLeastUnion}
use Rattle.zdd_families.specs.{Least.IsLeastProduct, Steps.IsLeastSides}
use Rattle.zdd_families.proofs.{WithinLemmas.some_within-from_set, InclusionLemmas.within_itself}
use Rattle.zdd_families.proofs.{CutAtUnit.some_within-above, CutAtUnit.some_within-cut}
use Rattle.zdd_families.proofs.LeastLemmas.{IsLeastFor-itself, IsLeastFor-same}
use Rattle.zdd_families.proofs.LeastLemmas.{least-above}
use Rattle.zdd_families.proofs.LeastNodesLemmas.{antichain-hi, hi_includes_none, least-node, without-same}

pub or_of : {a a' b b' : Bool} → a ≡ a' → b ≡ b' → (a || b) ≡ (a' || b')
or_of e e' = grind (arith, e, e')

pub and_of : {a a' b b' : Bool} → a ≡ a' → b ≡ b' → (a && b) ≡ (a' && b')
and_of e e' = grind (arith, e, e')

-- ---- results are above what their operands are above

pub least_union-above : (x : ℕ) (f g : List (List ℕ)) {least : List (List ℕ)} → IsAbove x f → IsAbove x g
    → IsLeastUnion f g least → IsAbove x least
least_union-above x f g above above' is =
    least-above x is (λ within. or_of (some_within-above x f within above) (some_within-above x g within above'))

pub least_product-above : (x : ℕ) (f g : List (List ℕ)) {least : List (List ℕ)} → IsAbove x f → IsAbove x g
    → IsLeastProduct f g least → IsAbove x least
least_product-above x f g above above' is =
    least-above x is (λ within. and_of (some_within-above x f within above) (some_within-above x g within above'))

pub least_sides : (f0 f1 g0 g1 : List (List ℕ)) {c d all : List (List ℕ)} → IsLeastUnion f0 f1 c → IsLeastUnion g0 g1 d
    → IsLeastProduct c d all → IsLeastSides f0 f1 g0 g1 all
least_sides f0 f1 g0 g1 of_f of_g is =
    IsLeastFor-same is (λ within. and_of (of_f.some_within within) (of_g.some_within within))

pub least_sides-above : (x : ℕ) (f0 f1 g0 g1 : List (List ℕ)) {all : List (List ℕ)} → IsAbove x f0 → IsAbove x f1
    → IsAbove x g0
    → IsAbove x g1 → IsLeastSides f0 f1 g0 g1 all → IsAbove x all
least_sides-above x f0 f1 g0 g1 a b c d is =
    least-above x is (λ within.
    and_of (or_of (some_within-above x f0 within a) (some_within-above x f1 within b))
    (or_of (some_within-above x g0 within c) (some_within-above x g1 within d)))

-- ---- two families at one unit

module _ (x : ℕ) (f f0 f1 g g0 g1 lo all hi : List (List ℕ)) (cut : Cuts x f f0 f1) (cut' : Cuts x g g0 g1)
    (left : IsWithout all lo hi) where
  pub least_union-both : IsLeastUnion f0 g0 lo → IsLeastUnion f1 g1 all → IsLeastUnion f g (branch x lo hi)
  least_union-both is is' =
      IsLeastFor-same (least-node x (least_union-above x f0 g0 cut.lo_above cut'.lo_above is)
      (least_union-above x f1 g1 cut.hi_above cut'.hi_above is') is is' left) (λ within.
      let e = some_within-cut cut within in
      let e' = some_within-cut cut' within in grind (arith, e, e'))

  -- the sets with x are joined from those without x too, of which each may do
  pub least_product-both : IsLeastProduct f0 g0 lo → IsLeastSides f0 f1 g0 g1 all → IsLeastProduct f g (branch x lo hi)
  least_product-both is is' =
      IsLeastFor-same (least-node x (least_product-above x f0 g0 cut.lo_above cut'.lo_above is)
      (least_sides-above x f0 f1 g0 g1 cut.lo_above cut.hi_above cut'.lo_above cut'.hi_above is') is is' left)
      (λ within.
      let e = some_within-cut cut within in
      let e' = some_within-cut cut' within in grind (arith, e, e'))

-- ---- a family at its least unit, and one above that unit

-- each set of a product includes one of the second family
includes_second : (f g : List (List ℕ)) {all : List (List ℕ)} (set : List ℕ) → IsLeastProduct f g all → Contains all set
    → some_within g (among set) ≡ true
includes_second f g {all} set is has =
    (and_parts _ _ (sym (is.some_within (among set)) ∙ some_within-from_set _ _ _ has (within_itself set))).1

module _ {x : ℕ} {f f0 f1 : List (List ℕ)} (g lo : List (List ℕ)) (cut : Cuts x f f0 f1) where
  -- a set of hi includes one of lo exactly where it includes one of the other family
  pub least_union-rest : IsAntichain f → IsLeastUnion f0 g lo → {hi : List (List ℕ)} → IsWithout f1 g hi
      → IsWithout f1 lo hi
  least_union-rest antichain is left =
      without-same (λ set has. sym (is.some_within (among set)
      ∙ ap (λ q. q || some_within g (among set)) (hi_includes_none cut antichain set has))) left

  -- each set of the product with x includes one of the other family, so lo says no more than f's sets without x
  pub least_product-rest : {all : List (List ℕ)} → IsLeastProduct f0 g lo → IsLeastProduct f1 g all
      → {hi : List (List ℕ)} → IsWithout all f0 hi → IsWithout all lo hi
  least_product-rest is is' left =
      without-same (λ set has. sym (is.some_within (among set)
      ∙ (let e = includes_second f1 g set is' has in grind (arith, e)))) left

  module _ (hi : List (List ℕ)) (above : IsAbove x g) where
    pub least_union-first : IsAntichain f → IsFamily f1 → IsLeastUnion f0 g lo → IsWithout f1 lo hi
        → IsLeastUnion f g (branch x lo hi)
    least_union-first antichain is_family is left =
        IsLeastFor-same (least-node x (least_union-above x f0 g cut.lo_above above is) cut.hi_above is
        (IsLeastFor-itself (antichain-hi cut antichain is_family)) left) (λ within.
        let e = some_within-cut cut within in grind (arith, e))

    pub least_product-first : {all : List (List ℕ)} → IsLeastProduct f0 g lo → IsLeastProduct f1 g all
        → IsWithout all lo hi → IsLeastProduct f g (branch x lo hi)
    least_product-first is is' left =
        IsLeastFor-same (least-node x
        (least_product-above x f0 g cut.lo_above above is) (least_product-above x f1 g cut.hi_above above is') is is'
        left)
        (λ within.
        let e = some_within-cut cut within in grind (arith, e))
