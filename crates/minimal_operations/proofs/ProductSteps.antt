-- A minimal product by the parts of nodes.
use Rattle.std.proofs.Common.{Result, ℕ, ◌-◌, ◌≡◌, ◌<◌, sym, subst, arith}
use Rattle.zdd_families.specs.{Map.level_in, Without.IsWithout, Least.IsLeastUnion, Least.IsLeastProduct}
use Rattle.zdd_families.specs.{Steps.IsLeastSides}
use Rattle.zdd_words.specs.declared.word.Parts.{Parts}
use Rattle.zdd_families.proofs.StepsLemmas.{least_sides, least_sides-above, least_union-above}
use Rattle.zdd_families.proofs.StepsLemmas.{least_product-above, least_product-both, least_product-first}
use Rattle.zdd_families.proofs.StepsLemmas.{least_product-rest}
use Rattle.family_memory.specs.Memory.{Held, Has, IsSound, IsNodeOf, Went, Gave, family_in, map_of}
use Rattle.family_memory.proofs.After.{above, ended, level_above, still, still_has, at_start}
use Rattle.minimal_operations.specs.{Halves.ArePartsAbove, Rests.CanRid, Rests.IsRidBranch}
use Rattle.minimal_operations.specs.Operands.{Answers, AnswersOf, IsHigher, OfOneLevel}
use Rattle.minimal_operations.proofs.RidSteps.{serves_itself}
use Rattle.minimal_operations.proofs.Steps.{above_still, at_level, fewer_than_level, higher_above, higher_fewer}
use Rattle.minimal_operations.proofs.Steps.{higher_level, levels_of_both, then_has, then_is, then_went}

-- parts that were above a level still are
parts_still : {before after : Held} {x : ℕ} {parts : Parts} → Went before after → ArePartsAbove before x parts
    → ArePartsAbove after x parts
parts_still {x} {parts} went are = record {
  sound = went.sound;
  unit = are.unit;
  has_lo = still_has are.sound went parts.lo are.has_lo;
  has_hi = still_has are.sound went parts.hi are.has_hi;
  lo_above = above_still are.sound went x parts.lo are.has_lo are.lo_above;
  hi_above = above_still are.sound went x parts.hi are.has_hi are.hi_above;
}

-- ---- two nodes of one level

module _ {s0 : Held} {a b : ℕ} {one other : Parts} (alike : OfOneLevel s0 a b) (is : IsNodeOf s0 a one)
    (is' : IsNodeOf s0 b other) where
  other_is : IsNodeOf s0 b (record { level = one.level; lo = other.lo; hi = other.hi })
  other_is = at_level alike is is'

  sound : IsSound s0
  sound = alike.nodes.has.sound

  pub as_levels : 4096 - one.level ≡ levels_of_both s0 a b
  as_levels = let e = is.level in let f = alike.level in omega arith

  module _ {s1 : Held} {lo : ℕ} (gave_lo : Gave (IsLeastProduct (family_in s0 one.lo) (family_in s0 other.lo)) s0 s1
      lo) where
    pub first_parts : ArePartsAbove s1 one.level one
    first_parts =
        parts_still gave_lo.went (record {
          sound = sound;
          unit = is.unit;
          has_lo = is.has_lo;
          has_hi = is.has_hi;
          lo_above = is.lo_above;
          hi_above = is.hi_above;
        })

    pub second_parts : ArePartsAbove s1 one.level other
    second_parts =
        parts_still gave_lo.went (record {
          sound = sound;
          unit = is.unit;
          has_lo = is'.has_lo;
          has_hi = is'.has_hi;
          lo_above = other_is.lo_above;
          hi_above = other_is.hi_above;
        })

    module _ {s2 : Held} {all : ℕ} (gave_all : Gave
        (IsLeastSides (family_in s1 one.lo) (family_in s1 one.hi) (family_in s1 other.lo) (family_in s1 other.hi)) s1 s2
        all) where
      lo_is : IsLeastProduct (family_in s0 one.lo) (family_in s0 other.lo) (family_in s2 lo)
      lo_is = then_is gave_lo gave_all.went

      all_is : IsLeastSides (family_in s0 one.lo) (family_in s0 one.hi) (family_in s0 other.lo) (family_in s0 other.hi)
          (family_in s2 all)
      all_is =
          at_start sound gave_lo.went (λ f g. IsLeastSides f g (family_in s0 other.lo) (family_in s0 other.hi)
          (family_in s2 all)) one.lo one.hi is.has_lo is.has_hi
          (at_start sound gave_lo.went (λ f g. IsLeastSides (family_in s1 one.lo) (family_in s1 one.hi) f g
          (family_in s2 all)) other.lo other.hi is'.has_lo is'.has_hi gave_all.is)

      pub both_can : CanRid s2 one.level lo all lo
      both_can = record {
        sound = gave_all.went.sound;
        has_lo = then_has gave_lo gave_all.went;
        has_all = gave_all.has;
        lo_above = least_product-above one.level _ _ is.cut.lo_above other_is.cut.lo_above lo_is;
        all_above =
            least_sides-above one.level _ _ _ _ is.cut.lo_above is.cut.hi_above other_is.cut.lo_above
            other_is.cut.hi_above all_is;
        serves = serves_itself (then_has gave_lo gave_all.went);
      }

      pub both_multiplied : {E : Type 0} (s3 : Held) (result : Result ℕ E)
          → Answers (IsRidBranch one.level (family_in s2 lo) (family_in s2 all)) s2 s3 result
          → AnswersOf IsLeastProduct s0 s3 a b result
      both_multiplied s3 result m =
          ended s3 (then_went gave_lo gave_all.went) (IsRidBranch one.level (family_in s2 lo) (family_in s2 all))
          (IsLeastProduct (family_in s0 a) (family_in s0 b)) result
          (λ f rid. subst (IsLeastProduct (family_in s0 a) (family_in s0 b)) (sym rid.is)
          (least_product-both one.level _ _ _ _ _ _ (family_in s2 lo) (family_in s2 all) rid.hi is.cut other_is.cut
          rid.left lo_is all_is)) m

-- ---- both sides of the sets with the level

module _ {s0 : Held} {x : ℕ} {one other : Parts} (are : ArePartsAbove s0 x one) (are' : ArePartsAbove s0 x other)
    {s1 s2 : Held} {first second : ℕ}
    (gave_first : Gave (IsLeastUnion (family_in s0 one.lo) (family_in s0 one.hi)) s0 s1 first)
    (gave_second : Gave (IsLeastUnion (family_in s1 other.lo) (family_in s1 other.hi)) s1 s2 second) where
  first_is : IsLeastUnion (family_in s0 one.lo) (family_in s0 one.hi) (family_in s2 first)
  first_is = then_is gave_first gave_second.went

  second_is : IsLeastUnion (family_in s0 other.lo) (family_in s0 other.hi) (family_in s2 second)
  second_is =
      at_start are.sound gave_first.went (λ f g. IsLeastUnion f g (family_in s2 second)) other.lo other.hi
      are'.has_lo are'.has_hi gave_second.is

  -- a union of both parts of a node has no unit up to x
  side_above : {parts : Parts} (r : ℕ) → ArePartsAbove s0 x parts → Has s2 r
      → IsLeastUnion (family_in s0 parts.lo) (family_in s0 parts.hi) (family_in s2 r) → x < level_in (map_of s2) r
  side_above {parts} r are has is =
      level_above x r gave_second.went.sound has (let u = are.unit.1 in omega arith)
      (least_union-above x _ _ (above x parts.lo are.sound are.has_lo are.lo_above)
      (above x parts.hi are.sound are.has_hi are.hi_above) is)

  pub sides_fewer : levels_of_both s2 first second < 4096 - x
  sides_fewer =
      fewer_than_level s2 first second x are.unit (side_above first are (then_has gave_first gave_second.went) first_is)
      (side_above second are' gave_second.has second_is)

  pub sides_multiplied : {E : Type 0} (s3 : Held) (result : Result ℕ E)
      → AnswersOf IsLeastProduct s2 s3 first second result
      → Answers (IsLeastSides (family_in s0 one.lo) (family_in s0 one.hi) (family_in s0 other.lo)
      (family_in s0 other.hi)) s0 s3 result
  sides_multiplied s3 result m =
      ended s3 (then_went gave_first gave_second.went) (IsLeastProduct (family_in s2 first) (family_in s2 second))
      (IsLeastSides (family_in s0 one.lo) (family_in s0 one.hi) (family_in s0 other.lo) (family_in s0 other.hi)) result
      (λ f is. least_sides _ _ _ _ first_is second_is is) m

-- ---- a node and a family above its level

module _ {s0 : Held} {a b : ℕ} {one : Parts} (higher : IsHigher s0 a b) (is : IsNodeOf s0 a one) {s1 : Held} {lo : ℕ}
    (gave_lo : Gave (IsLeastProduct (family_in s0 one.lo) (family_in s0 b)) s0 s1 lo) where
  pub higher_all_fewer : levels_of_both s1 one.hi b < levels_of_both s0 a b
  higher_all_fewer =
      higher_fewer higher is s1 one.hi b
      (above_still higher.has.sound gave_lo.went one.level one.hi is.has_hi is.hi_above)
      (above_still higher.has.sound gave_lo.went one.level b higher.has.second (higher_level higher is))

  module _ {s2 : Held} {all : ℕ} (gave_all : Gave (IsLeastProduct (family_in s1 one.hi) (family_in s1 b)) s1 s2
      all) where
    higher_lo_is : IsLeastProduct (family_in s0 one.lo) (family_in s0 b) (family_in s2 lo)
    higher_lo_is = then_is gave_lo gave_all.went

    higher_all_is : IsLeastProduct (family_in s0 one.hi) (family_in s0 b) (family_in s2 all)
    higher_all_is =
        at_start higher.has.sound gave_lo.went (λ f g. IsLeastProduct f g (family_in s2 all)) one.hi b is.has_hi
        higher.has.second gave_all.is

    went : Went s0 s2
    went = then_went gave_lo gave_all.went

    pub higher_can : CanRid s2 one.level lo all one.lo
    higher_can = record {
      sound = gave_all.went.sound;
      has_lo = then_has gave_lo gave_all.went;
      has_all = gave_all.has;
      lo_above = least_product-above one.level _ _ is.cut.lo_above (higher_above higher is) higher_lo_is;
      all_above = least_product-above one.level _ _ is.cut.hi_above (higher_above higher is) higher_all_is;
      serves = record {
        has = still_has higher.has.sound went one.lo is.has_lo;
        same = λ left without.
            least_product-rest (family_in s0 b) (family_in s2 lo) is.cut higher_lo_is higher_all_is
            (subst (λ g. IsWithout (family_in s2 all) g left) (still higher.has.sound went one.lo is.has_lo) without);
      };
    }

    pub higher_multiplied : {E : Type 0} (s3 : Held) (result : Result ℕ E)
        → Answers (IsRidBranch one.level (family_in s2 lo) (family_in s2 all)) s2 s3 result
        → AnswersOf IsLeastProduct s0 s3 a b result
    higher_multiplied s3 result m =
        ended s3 went (IsRidBranch one.level (family_in s2 lo) (family_in s2 all))
        (IsLeastProduct (family_in s0 a) (family_in s0 b)) result
        (λ f rid. subst (IsLeastProduct (family_in s0 a) (family_in s0 b)) (sym rid.is)
        (least_product-first (family_in s0 b) (family_in s2 lo) is.cut rid.hi
        (higher_above higher is) higher_lo_is higher_all_is rid.left)) m
