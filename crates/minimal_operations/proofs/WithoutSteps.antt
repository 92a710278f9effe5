-- What is left of a node without a family, by its parts: three inner rests, and a node of two of them.
use Rattle.std.proofs.Common.{Result, ◌≡◌, ℕ, ◌<◌, sym, subst, arith}
use Rattle.zdd_families.specs.{Family.IsAbove, Family.branch, Without.IsWithout}
use Rattle.zdd_words.specs.declared.word.Parts.{Parts}
use Rattle.zdd_families.proofs.WithoutLemmas.{without-above, without-step}
use Rattle.zdd_families.proofs.LeastNodesLemmas.{antichain-without}
use Rattle.family_memory.specs.Memory.{Held, IsSound, IsNodeOf, Went, Gave, family_in}
use Rattle.family_memory.proofs.After.{Went-then, ended, level_above, still, at_start}
use Rattle.minimal_operations.specs.{declared.halves.Half.Half, Halves.IsHalf, Rests.CanBranch}
use Rattle.minimal_operations.specs.Operands.{Answers, AnswersOf, NoneLower}
use Rattle.minimal_operations.proofs.Steps.{above_still, fewer_from, levels_from, then_has, then_is, then_went}

module _ {s0 : Held} {a b : ℕ} {one : Parts} {other : Half} (nodes : NoneLower s0 a b) (is : IsNodeOf s0 a one)
    (half : IsHalf s0 one.level b other) where
  sound : IsSound s0
  sound = nodes.nodes.has.sound

  pub lo_fewer : levels_from s0 one.lo < levels_from s0 a
  lo_fewer = fewer_from s0 s0 a one.lo is.level is.unit is.lo_above

  module _ {s1 : Held} {lo : ℕ} (gave_lo : Gave (IsWithout (family_in s0 one.lo) (family_in s0 other.lo)) s0 s1
      lo) where
    pub some_fewer : levels_from s1 one.hi < levels_from s0 a
    some_fewer =
        fewer_from s0 s1 a one.hi is.level is.unit
        (above_still sound gave_lo.went one.level one.hi is.has_hi is.hi_above)

    module _ {s2 : Held} {some : ℕ} (gave_some : Gave (IsWithout (family_in s1 one.hi) (family_in s1 other.hi)) s1 s2
        some) where
      pub went_some : Went s0 s2
      went_some = then_went gave_lo gave_some.went

      some_is : IsWithout (family_in s0 one.hi) (family_in s0 other.hi) (family_in s2 some)
      some_is =
          at_start sound gave_lo.went (λ f g. IsWithout f g (family_in s2 some)) one.hi other.hi is.has_hi
          half.has_hi gave_some.is

      some_above : IsAbove one.level (family_in s2 some)
      some_above = without-above one.level some_is is.cut.hi_above

      pub hi_fewer : levels_from s2 some < levels_from s0 a
      hi_fewer =
          fewer_from s0 s2 a some is.level is.unit
          (level_above one.level some gave_some.went.sound gave_some.has (let u = is.unit.1 in omega arith) some_above)

      module _ {s3 : Held} {hi : ℕ} (gave_hi : Gave (IsWithout (family_in s2 some) (family_in s2 other.lo)) s2 s3
          hi) where
        pub went_hi : Went s0 s3
        went_hi = Went-then went_some gave_hi.went

        went_on : Went s1 s3
        went_on = then_went gave_some gave_hi.went

        lo_is : IsWithout (family_in s0 one.lo) (family_in s0 other.lo) (family_in s3 lo)
        lo_is = then_is gave_lo went_on

        hi_is : IsWithout (family_in s2 some) (family_in s0 other.lo) (family_in s3 hi)
        hi_is =
            subst (λ g. IsWithout (family_in s2 some) g (family_in s3 hi))
            (still sound went_some other.lo half.has_lo) gave_hi.is

        step : IsWithout (family_in s0 a) (family_in s0 b) (branch one.level (family_in s3 lo) (family_in s3 hi))
        step =
            without-step one.level _ _ _ _ _ _ (family_in s3 lo) (family_in s2 some) (family_in s3 hi) is.cut half.cut
            lo_is some_is hi_is

        pub halves_can : CanBranch s3 one.level lo hi
        halves_can = record {
          sound = gave_hi.went.sound;
          has_lo = then_has gave_lo went_on;
          has_hi = gave_hi.has;
          lo_above = without-above one.level lo_is is.cut.lo_above;
          hi_above = without-above one.level hi_is some_above;
          antichain = antichain-without _ _ _ (sound.antichains a nodes.nodes.has.first) step;
        }

        pub left_made : {E : Type 0} (s4 : Held) (result : Result ℕ E)
            → Answers (λ f. f ≡ branch one.level (family_in s3 lo) (family_in s3 hi)) s3 s4 result
            → AnswersOf IsWithout s0 s4 a b result
        left_made s4 result m =
            ended s4 went_hi (λ f. f ≡ branch one.level (family_in s3 lo) (family_in s3 hi))
            (IsWithout (family_in s0 a) (family_in s0 b)) result
            (λ f e. subst (IsWithout (family_in s0 a) (family_in s0 b)) (sym e) step) m
