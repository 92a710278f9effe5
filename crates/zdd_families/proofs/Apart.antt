-- Products of families that share no unit, of which no set includes another.
use Rattle.std.specs.Prelude.{◌≡◌, ◌⊎◌, ℕ, Bool, true, ◌||◌, List, Contains}
use Rattle.std.proofs.Common.{sym, ◌∙◌, ap, subst, inl, inr}
use Rattle.std.proofs.lemmas.Bool.{and_parts, and_from, or_cases, or_left, or_right, false_from_ne_true, false≢true}
use Rattle.unit_sets.specs.UnitList.{among, is_within, some_within}
use Rattle.unit_sets.proofs.UnitListLemmas.{among-from_is_within, is_within-from_among}
use Rattle.zdd_families.specs.{Family.IsAbove, Family.branch, Cuts.Cuts, Inclusion.Includes}
use Rattle.zdd_families.specs.{Product.IsProduct, Product.IsJoin, Sets.joined, Antichains.IsAntichain}
use Rattle.zdd_families.specs.{Least.IsLeastProduct, LeastNodes.IncludesNoneOf, Units.LiesBelow, Units.ShareNoUnit}
use Rattle.zdd_families.proofs.InclusionLemmas.{Includes-from_test, test-from_part, within_itself}
use Rattle.zdd_families.proofs.{SetsLemmas.among-joined, MinimalLemmas.minimal-itself}
use Rattle.zdd_families.proofs.WithinLemmas.{HasWithin, HasWithin-from_test, some_within-from_set, passes_at}
use Rattle.zdd_families.proofs.WithinLemmas.{passes_from}
use Rattle.zdd_families.proofs.LeastNodesLemmas.{hi_includes_none, without-all}
use Rattle.zdd_families.proofs.StepsLemmas.{least_product-first, least_product-rest}
use Rattle.zdd_families.proofs.UnitsLemmas.{below-apart, lo_unit}

-- a set of each family, whose units are all that a set has
pub record IsCovered (f g : List (List ℕ)) (set : List ℕ) : Type 0 where
  pub first : List ℕ
  pub second : List ℕ
  pub of_f : Contains f first
  pub of_g : Contains g second
  pub covers : (unit : ℕ) → among set unit ≡ true → (among first unit ≡ true) ⊎ (among second unit ≡ true)

-- each minimal set of a product has the units of a set of each family, and no others
module _ (f g least : List (List ℕ)) (set : List ℕ) (is : IsLeastProduct f g least) (has : Contains least set) where
  both : (some_within f (among set) ≡ true) × (some_within g (among set) ≡ true)
  both =
      and_parts _ _ (sym (is.some_within (among set)) ∙ some_within-from_set _ _ _ has (within_itself set))

  in_f : HasWithin f (among set)
  in_f = HasWithin-from_test f both.0

  in_g : HasWithin g (among set)
  in_g = HasWithin-from_test g both.1

  abbrev either : ℕ → Bool
  either unit = among in_f.set unit || among in_g.set unit

  part : HasWithin least either
  part =
      HasWithin-from_test least (is.some_within either
      ∙ and_from _ _ (some_within-from_set f either in_f.set in_f.has (passes_from either in_f.set (λ unit h.
      or_left _ _ h)))
      (some_within-from_set g either in_g.set in_g.has (passes_from either in_g.set (λ unit h.
      or_right _ _ h))))

  part_within : is_within set part.set ≡ true
  part_within =
      is_within-from_among set part.set (λ unit h.
      elim (or_cases _ _ (passes_at either part.set unit part.passes h)) [
        | inl a ↦ passes_at (among set) in_f.set unit in_f.passes a
        | inr b ↦ passes_at (among set) in_g.set unit in_g.passes b
      ])

  same : part.set ≡ set
  same = ((is.antichain.sets set).0 has).1 part.set part.has part_within

  pub covered : IsCovered f g set
  covered = record {
    first = in_f.set;
    second = in_g.set;
    of_f = in_f.has;
    of_g = in_g.has;
    covers =
        λ unit h. or_cases (among in_f.set unit) (among in_g.set unit) (passes_at either part.set unit part.passes
        (subst (λ q. among q unit ≡ true) (sym same) h));
  }

-- a part that shares no unit with the one of both sets is within the other
module _ {f g : List (List ℕ)} {set : List ℕ} (part : List ℕ) (is : IsCovered f g set)
    (within : is_within set part ≡ true) where
  pub within_first : ((unit : ℕ) → among part unit ≡ true → among is.second unit ≡ true → ⊥)
      → is_within is.first part ≡ true
  within_first apart =
      is_within-from_among is.first part (λ unit h.
      elim (is.covers unit (among-from_is_within set part unit within h)) [
        | inl a ↦ a
        | inr b ↦ absurd (apart unit h b)
      ])

  pub within_second : ((unit : ℕ) → among part unit ≡ true → among is.first unit ≡ true → ⊥)
      → is_within is.second part ≡ true
  within_second apart =
      is_within-from_among is.second part (λ unit h.
      elim (is.covers unit (among-from_is_within set part unit within h)) [
        | inl a ↦ absurd (apart unit h a)
        | inr b ↦ b
      ])

-- ---- a family that is cut, and one above all its units

module _ {x : ℕ} {f f0 f1 : List (List ℕ)} (g : List (List ℕ)) (cut : Cuts x f f0 f1) (is : IsAntichain f)
    (below : LiesBelow f g) where
  pub product_includes_none : {all : List (List ℕ)} → IsLeastProduct f1 g all → IncludesNoneOf f0 all
  product_includes_none {all} of_hi set has =
      false_from_ne_true _ (λ t.
      let found : Includes f0 set = Includes-from_test f0 set t in
      let both : IsCovered f1 g set = covered f1 g all set of_hi has in
      let within : is_within both.first found.part ≡ true =
      within_first found.part both found.within (λ unit h k.
      below-apart f g below unit (lo_unit unit cut (found.part, found.has, h)) (both.second, both.of_g, k)) in
      false≢true (sym (hi_includes_none cut is both.first both.of_f)
      ∙ test-from_part _ _ _ found.has within))

  -- nothing need be taken out of the products of the parts
  pub least_product-below : (lo hi : List (List ℕ)) → IsAbove x g → IsLeastProduct f0 g lo → IsLeastProduct f1 g hi
      → IsLeastProduct f g (branch x lo hi)
  least_product-below lo hi above of_lo of_hi =
      least_product-first g lo cut hi above of_lo of_hi (least_product-rest g lo cut of_lo of_hi
      (without-all of_hi.antichain.is_family (product_includes_none of_hi)))

-- ---- all unions of a set of each

module _ (f g h : List (List ℕ)) (is : IsAntichain f) (is' : IsAntichain g) (apart : ShareNoUnit f g)
    (product : IsProduct f g h) where
  abbrev cover_of : (set : List ℕ) → IsJoin f g set → IsCovered f g set
  cover_of set join = record {
    first = join.first;
    second = join.second;
    of_f = join.of_f;
    of_g = join.of_g;
    covers =
        λ unit h. or_cases (among join.first unit) (among join.second unit)
        (sym (among-joined join.first join.second unit) ∙ sym (ap (λ q. among q unit) join.is) ∙ h);
  }

  -- the units of each side of a join are units of it
  of_first : {set : List ℕ} (join : IsJoin f g set) (unit : ℕ) → among join.first unit ≡ true → among set unit ≡ true
  of_first join unit h =
      ap (λ q. among q unit) join.is ∙ among-joined join.first join.second unit
      ∙ or_left _ _ h

  of_second : {set : List ℕ} (join : IsJoin f g set) (unit : ℕ) → among join.second unit ≡ true → among set unit ≡ true
  of_second join unit h =
      ap (λ q. among q unit) join.is ∙ among-joined join.first join.second unit
      ∙ or_right _ _ h

  module _ (set other : List ℕ) (join : IsJoin f g set) (join' : IsJoin f g other)
      (within : is_within set other ≡ true) where
    same_first : join'.first ≡ join.first
    same_first =
        ((is.sets join.first).0 join.of_f).1 join'.first join'.of_f (within_first join'.first (cover_of set join)
        (is_within-from_among _ _ (λ unit h. among-from_is_within set other unit within
        (of_first join' unit h))) (λ unit h k. apart unit (join'.first, join'.of_f, h) (join.second, join.of_g, k)))

    same_second : join'.second ≡ join.second
    same_second =
        ((is'.sets join.second).0 join.of_g).1 join'.second join'.of_g (within_second join'.second (cover_of set join)
        (is_within-from_among _ _ (λ unit h. among-from_is_within set other unit within
        (of_second join' unit h))) (λ unit h k. apart unit (join.first, join.of_f, k) (join'.second, join'.of_g, h)))

    same_join : other ≡ set
    same_join =
        join'.is ∙ ap (λ q. joined q join'.second) same_first ∙ ap (joined join.first) same_second ∙ sym join.is

  pub product-antichain : IsAntichain h
  product-antichain =
      minimal-itself product.is_family (λ set other has has' within.
      same_join set other ((product.sets set).0 has) ((product.sets other).0 has') within)
