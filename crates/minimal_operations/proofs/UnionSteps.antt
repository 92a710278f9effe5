-- A minimal union by the parts of nodes.
use Rattle.std.proofs.Common.{Result, ◌≡◌, ℕ, ◌<◌, List, sym, subst}
use Rattle.zdd_families.specs.{Family.IsAbove, Without.IsWithout, Least.IsLeastUnion}
use Rattle.zdd_words.specs.declared.word.Parts.{Parts}
use Rattle.zdd_families.proofs.StepsLemmas.{least_union-above, least_union-both, least_union-first}
use Rattle.zdd_families.proofs.StepsLemmas.{least_union-rest}
use Rattle.family_memory.specs.Memory.{Held, IsSound, IsNodeOf, Gave, family_in}
use Rattle.family_memory.proofs.After.{ended, is_family, still, still_has, at_both, at_start}
use Rattle.minimal_operations.specs.Operands.{Answers, AnswersOf, IsHigher, OfOneLevel}
use Rattle.minimal_operations.specs.Rests.{CanRid, IsRidBranch}
use Rattle.minimal_operations.proofs.RidSteps.{serves_itself}
use Rattle.minimal_operations.proofs.Steps.{above_still, at_level, both_fewer, higher_above, levels_of_both}
use Rattle.minimal_operations.proofs.Steps.{then_has, then_is, then_went}

-- ---- two nodes of one level

module _ {s0 : Held} {a b : ℕ} {one other : Parts} (alike : OfOneLevel s0 a b) (is : IsNodeOf s0 a one)
    (is' : IsNodeOf s0 b other) {s1 : Held} {lo : ℕ}
    (gave_lo : Gave (IsLeastUnion (family_in s0 one.lo) (family_in s0 other.lo)) s0 s1 lo) where
  other_is : IsNodeOf s0 b (record { level = one.level; lo = other.lo; hi = other.hi })
  other_is = at_level alike is is'

  sound : IsSound s0
  sound = alike.nodes.has.sound

  pub his_fewer : levels_of_both s1 one.hi other.hi < levels_of_both s0 a b
  his_fewer =
      both_fewer alike is is' s1 one.hi other.hi (above_still sound gave_lo.went one.level one.hi is.has_hi is.hi_above)
      (above_still sound gave_lo.went one.level other.hi is'.has_hi other_is.hi_above)

  module _ {s2 : Held} {all : ℕ}
      (gave_all : Gave (IsLeastUnion (family_in s1 one.hi) (family_in s1 other.hi)) s1 s2 all) where
    lo_is : IsLeastUnion (family_in s0 one.lo) (family_in s0 other.lo) (family_in s2 lo)
    lo_is = then_is gave_lo gave_all.went

    all_is : IsLeastUnion (family_in s0 one.hi) (family_in s0 other.hi) (family_in s2 all)
    all_is =
        at_start sound gave_lo.went (λ f g. IsLeastUnion f g (family_in s2 all)) one.hi other.hi is.has_hi
        is'.has_hi gave_all.is

    pub both_can : CanRid s2 one.level lo all lo
    both_can = record {
      sound = gave_all.went.sound;
      has_lo = then_has gave_lo gave_all.went;
      has_all = gave_all.has;
      lo_above = least_union-above one.level _ _ is.cut.lo_above other_is.cut.lo_above lo_is;
      all_above = least_union-above one.level _ _ is.cut.hi_above other_is.cut.hi_above all_is;
      serves = serves_itself (then_has gave_lo gave_all.went);
    }

    pub both_united : {E : Type 0} (s3 : Held) (result : Result ℕ E)
        → Answers (IsRidBranch one.level (family_in s2 lo) (family_in s2 all)) s2 s3 result
        → AnswersOf IsLeastUnion s0 s3 a b result
    both_united s3 result m =
        ended s3 (then_went gave_lo gave_all.went) (IsRidBranch one.level (family_in s2 lo) (family_in s2 all))
        (IsLeastUnion (family_in s0 a) (family_in s0 b)) result
        (λ f rid. subst (IsLeastUnion (family_in s0 a) (family_in s0 b)) (sym rid.is)
        (least_union-both one.level _ _ _ _ _ _ (family_in s2 lo) (family_in s2 all) rid.hi is.cut other_is.cut rid.left
        lo_is all_is)) m

-- ---- a node and a family above its level

module _ {s0 : Held} {a b : ℕ} {one : Parts} (higher : IsHigher s0 a b) (is : IsNodeOf s0 a one) {s1 : Held} {lo : ℕ}
    (gave_lo : Gave (IsLeastUnion (family_in s0 one.lo) (family_in s0 b)) s0 s1 lo) where
  same_b : family_in s1 b ≡ family_in s0 b
  same_b = still higher.has.sound gave_lo.went b higher.has.second

  same_hi : family_in s1 one.hi ≡ family_in s0 one.hi
  same_hi = still higher.has.sound gave_lo.went one.hi is.has_hi

  -- the other family serves in place of what was made, which has more sets than it
  first_same : (left : List (List ℕ)) → IsWithout (family_in s1 one.hi) (family_in s1 b) left
      → IsWithout (family_in s1 one.hi) (family_in s1 lo) left
  first_same left without =
      subst (λ f. IsWithout f (family_in s1 lo) left) (sym same_hi)
      (least_union-rest (family_in s0 b) (family_in s1 lo) is.cut
      (higher.has.sound.antichains a higher.has.first) gave_lo.is
      (at_both (λ f g. IsWithout f g left) same_hi same_b without))

  pub first_can : CanRid s1 one.level lo one.hi b
  first_can = record {
    sound = gave_lo.went.sound;
    has_lo = gave_lo.has;
    has_all = still_has higher.has.sound gave_lo.went one.hi is.has_hi;
    lo_above = least_union-above one.level _ _ is.cut.lo_above (higher_above higher is) gave_lo.is;
    all_above = subst (IsAbove one.level) (sym same_hi) is.cut.hi_above;
    serves = record {
      has = still_has higher.has.sound gave_lo.went b higher.has.second;
      same = first_same;
    };
  }

  pub first_united : {E : Type 0} (s2 : Held) (result : Result ℕ E)
      → Answers (IsRidBranch one.level (family_in s1 lo) (family_in s1 one.hi)) s1 s2 result
      → AnswersOf IsLeastUnion s0 s2 a b result
  first_united s2 result m =
      ended s2 gave_lo.went (IsRidBranch one.level (family_in s1 lo) (family_in s1 one.hi))
      (IsLeastUnion (family_in s0 a) (family_in s0 b)) result
      (λ f rid. subst (IsLeastUnion (family_in s0 a) (family_in s0 b)) (sym rid.is)
      (least_union-first (family_in s0 b) (family_in s1 lo) is.cut rid.hi
      (higher_above higher is) (higher.has.sound.antichains a higher.has.first)
      (is_family one.hi higher.has.sound is.has_hi) gave_lo.is
      (subst (λ f1. IsWithout f1 (family_in s1 lo) rid.hi) same_hi rid.left))) m
