-- The product of a family and one above all its units, by the parts of a node.
use Rattle.std.proofs.Common.{Result, ◌≡◌, ◌≢◌, ℕ, ◌<◌, [], sym, subst}
use Rattle.zdd_families.specs.{Family.IsAbove, Family.branch, Least.IsLeastProduct, Units.LiesBelow}
use Rattle.zdd_families.proofs.{Canonical.family-filled, Apart.least_product-below, StepsLemmas.least_product-above}
use Rattle.zdd_words.specs.declared.word.Parts.{Parts}
use Rattle.zdd_families.proofs.UnitsLemmas.{below-lo, below-hi, cut_unit}
use Rattle.family_memory.specs.Memory.{Held, IsSound, IsNodeOf, Gave, family_in, map_of}
use Rattle.family_memory.proofs.After.{ended, knows, at_start, of_start}
use Rattle.minimal_operations.specs.Operands.{Answers, AnswersOf, HasNodes}
use Rattle.minimal_operations.specs.Rests.{CanBranch}
use Rattle.minimal_operations.proofs.Steps.{above_still, fewer_from, levels_from, then_has, then_is, then_went}

module _ {s0 : Held} {a b : ℕ} {one : Parts} (nodes : HasNodes s0 a b) (is : IsNodeOf s0 a one)
    (below : LiesBelow (family_in s0 a) (family_in s0 b)) where
  sound : IsSound s0
  sound = nodes.has.sound

  above_b : IsAbove one.level (family_in s0 b)
  above_b =
      let hi_has_sets : family_in s0 one.hi ≢ [] =
      family-filled (map_of s0) one.hi sound.closed (knows one.hi sound is.has_hi) is.filled in
      below one.level (cut_unit is.cut hi_has_sets)

  pub lo_fewer : levels_from s0 one.lo < levels_from s0 a
  lo_fewer = fewer_from s0 s0 a one.lo is.level is.unit is.lo_above

  pub lo_below : LiesBelow (family_in s0 one.lo) (family_in s0 b)
  lo_below = below-lo (family_in s0 b) is.cut below

  module _ {s1 : Held} {lo : ℕ} (gave_lo : Gave (IsLeastProduct (family_in s0 one.lo) (family_in s0 b)) s0 s1 lo) where
    pub hi_fewer : levels_from s1 one.hi < levels_from s0 a
    hi_fewer =
        fewer_from s0 s1 a one.hi is.level is.unit
        (above_still sound gave_lo.went one.level one.hi is.has_hi is.hi_above)

    pub hi_below : LiesBelow (family_in s1 one.hi) (family_in s1 b)
    hi_below =
        of_start sound gave_lo.went LiesBelow one.hi b is.has_hi nodes.has.second
        (below-hi (family_in s0 b) is.cut below)

    module _ {s2 : Held} {hi : ℕ} (gave_hi : Gave (IsLeastProduct (family_in s1 one.hi) (family_in s1 b)) s1 s2
        hi) where
      lo_is : IsLeastProduct (family_in s0 one.lo) (family_in s0 b) (family_in s2 lo)
      lo_is = then_is gave_lo gave_hi.went

      hi_is : IsLeastProduct (family_in s0 one.hi) (family_in s0 b) (family_in s2 hi)
      hi_is =
          at_start sound gave_lo.went (λ f g. IsLeastProduct f g (family_in s2 hi)) one.hi b is.has_hi
          nodes.has.second gave_hi.is

      multiplied : IsLeastProduct (family_in s0 a) (family_in s0 b)
          (branch one.level (family_in s2 lo) (family_in s2 hi))
      multiplied =
          least_product-below (family_in s0 b)
          is.cut (sound.antichains a nodes.has.first) below (family_in s2 lo) (family_in s2 hi) above_b lo_is hi_is

      pub parts_can : CanBranch s2 one.level lo hi
      parts_can = record {
        sound = gave_hi.went.sound;
        has_lo = then_has gave_lo gave_hi.went;
        has_hi = gave_hi.has;
        lo_above = least_product-above one.level _ _ is.cut.lo_above above_b lo_is;
        hi_above = least_product-above one.level _ _ is.cut.hi_above above_b hi_is;
        antichain = multiplied.antichain;
      }

      pub parts_multiplied : {E : Type 0} (s3 : Held) (result : Result ℕ E)
          → Answers (λ f. f ≡ branch one.level (family_in s2 lo) (family_in s2 hi)) s2 s3 result
          → AnswersOf IsLeastProduct s0 s3 a b result
      parts_multiplied s3 result m =
          ended s3 (then_went gave_lo gave_hi.went) (λ f. f ≡ branch one.level (family_in s2 lo) (family_in s2 hi))
          (IsLeastProduct (family_in s0 a) (family_in s0 b)) result
          (λ f same. subst (IsLeastProduct (family_in s0 a) (family_in s0 b)) (sym same) multiplied) m
