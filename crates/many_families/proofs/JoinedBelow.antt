-- Votes with one member more that lies below all others, by the parts of its family at a unit.
use Rattle.std.proofs.Common.{◌≡◌, ℕ, Bool, true, false, ◌&&◌, ◌||◌, List, [], refl, sym, ◌∙◌, ap, inl, inr}
use Rattle.std.proofs.lemmas.Bool.{and_parts, false_from_ne_true, false≢true, or_cases}
use Rattle.unit_sets.specs.UnitList.{among, is_within, some_within}
use Rattle.zdd_families.specs.{Family.IsAbove, Family.branch, Cuts.Cuts, Inclusion.includes_one, Antichains.IsAntichain}
use Rattle.zdd_families.specs.{Least.IsLeastProduct, LeastNodes.IncludesNoneOf}
use Rattle.zdd_families.proofs.{CutsLemmas.cut_has_lo, InclusionLemmas.test-from_part, WithinLemmas.HasWithin}
use Rattle.zdd_families.proofs.{WithinLemmas.HasWithin-from_test, CutAtUnit.some_within-above}
use Rattle.zdd_families.proofs.{CutAtUnit.some_within-cut, LeastLemmas.IsLeastFor-same, LeastLemmas.least-above}
use Rattle.zdd_families.proofs.Apart.{IsCovered, covered, within_first, within_second}
use Rattle.zdd_families.proofs.LeastNodesLemmas.{hi_includes_none, least-node, without-all}
use Rattle.zdd_families.proofs.StepsLemmas.{and_of, least_product-above, or_of}
use Rattle.zdd_families.proofs.UnitsLemmas.{below-apart, below-lo, hi_unit, lo_unit}
use Rattle.many_families.specs.Joins.{IsJoined, IsBelow}

join_parts : (s f a b w : Bool) → ((s || (f && a)) || (w && (b && f))) ≡ (s || (f && (a || (w && b))))
join_parts true f a b w = refl
join_parts false true true b w = refl
join_parts false true false true true = refl
join_parts false true false true false = refl
join_parts false true false false true = refl
join_parts false true false false false = refl
join_parts false false a true true = refl
join_parts false false a true false = refl
join_parts false false a false true = refl
join_parts false false a false false = refl

module _ {x : ℕ} {voter v0 v1 same fewer : List (List ℕ)} (cut : Cuts x voter v0 v1)
    (is : IsBelow voter same fewer) where
  pub below_lo : IsBelow v0 same fewer
  below_lo = record {
    same_above = below-lo same cut is.same_above;
    fewer_above = below-lo fewer cut is.fewer_above;
    includes_none = is.includes_none;
    lacks = λ has. is.lacks (cut_has_lo [] cut has);
  }

  module _ {lo hi : List (List ℕ)} (antichain : IsAntichain voter) (same_above : IsAbove x same)
      (fewer_above : IsAbove x fewer) (lo_is : IsJoined v0 same fewer lo) (hi_is : IsLeastProduct v1 fewer hi) where
    pub joined_above : IsAbove x lo
    joined_above =
        least-above x lo_is (λ within. or_of (some_within-above x same within same_above)
        (and_of (some_within-above x fewer within fewer_above) (some_within-above x v0 within cut.lo_above)))

    pub product_above : IsAbove x hi
    product_above = least_product-above x v1 fewer cut.hi_above fewer_above hi_is

    module _ {set : List ℕ} (both : IsCovered v1 fewer set) where
      -- the sets with one vote fewer include none with as many
      of_same : HasWithin same (among set) → ⊥
      of_same found =
          let within : is_within both.second found.set ≡ true =
          within_second found.set both found.passes (λ unit h k.
          below-apart voter same is.same_above unit (hi_unit unit cut (both.first, both.of_f, k))
          (found.set, found.has, h)) in
          false≢true (sym (is.includes_none both.second both.of_g)
          ∙ test-from_part same both.second found.set found.has within)

      -- and those of the voter with the unit none without it
      of_lo : HasWithin v0 (among set) → ⊥
      of_lo found =
          let within : is_within both.first found.set ≡ true =
          within_first found.set both found.passes (λ unit h k.
          below-apart voter fewer is.fewer_above unit (lo_unit unit cut (found.set, found.has, h))
          (both.second, both.of_g, k)) in
          false≢true (sym (hi_includes_none cut antichain both.first both.of_f)
          ∙ test-from_part v0 both.first found.set found.has within)

      none_of : (some_within same (among set) || (some_within fewer (among set) && some_within v0 (among set))) ≡ true
          → ⊥
      none_of t =
          elim (or_cases (some_within same (among set)) (some_within fewer (among set) && some_within v0 (among set))
          t) [
            | inl a ↦ of_same (HasWithin-from_test same a)
            | inr b ↦ of_lo (HasWithin-from_test v0
                (and_parts (some_within fewer (among set)) (some_within v0 (among set)) b).1)
          ]

    includes_no_lo : IncludesNoneOf lo hi
    includes_no_lo set has =
        false_from_ne_true (includes_one lo set) (λ t.
        none_of (covered v1 fewer hi set hi_is has) (sym (lo_is.some_within (among set)) ∙ t))

    -- nothing need be taken out of the parts
    pub joined_by_parts : IsJoined voter same fewer (branch x lo hi)
    joined_by_parts =
        IsLeastFor-same (least-node x joined_above product_above lo_is hi_is
        (without-all hi_is.antichain.is_family includes_no_lo))
        (λ within. join_parts (some_within same within) (some_within fewer within) (some_within v0 within)
        (some_within v1 within) (within x)
        ∙ ap (λ b. some_within same within || (some_within fewer within && b)) (sym (some_within-cut cut within)))
