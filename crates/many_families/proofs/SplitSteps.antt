-- A product by splitting, call by call.
use Rattle.std.proofs.Common.{Result, ℕ}
use Rattle.zdd_families.specs.{Without.IsWithout, Least.IsLeastUnion, Least.IsLeastProduct}
use Rattle.zdd_families.proofs.Splitting.{least_product-split}
use Rattle.family_memory.specs.Memory.{Held, Went, Gave, family_in}
use Rattle.family_memory.proofs.After.{Went-then, ended, still_has, at_start, of_start}
use Rattle.minimal_operations.specs.Operands.{AnswersOf, HasBoth}
use Rattle.minimal_operations.proofs.Steps.{then_has, then_is, then_went}
use Rattle.many_families.specs.Rests.{AreRests}

-- ---- what is left of either family

module _ {s0 s1 s2 : Held} {a b rest other : ℕ} (has : HasBoth s0 a b)
    (gave : Gave (IsWithout (family_in s0 a) (family_in s0 b)) s0 s1 rest)
    (gave' : Gave (IsWithout (family_in s1 b) (family_in s1 a)) s1 s2 other) where
  went : Went s0 s2
  went = then_went gave gave'.went

  pub are_rests : AreRests s2 a b rest other
  are_rests = record {
    has = record {
      sound = gave'.went.sound;
      first = still_has has.sound went a has.first;
      second = still_has has.sound went b has.second;
    };
    has_rest = then_has gave gave'.went;
    has_other = gave'.has;
    first =
        of_start has.sound went (λ f g. IsWithout f g (family_in s2 rest)) a b has.first has.second
        (then_is gave gave'.went);
    second =
        of_start gave.went.sound gave'.went (λ f g. IsWithout f g (family_in s2 other)) b a
        (still_has has.sound gave.went b has.second) (still_has has.sound gave.went a has.first) gave'.is;
  }

  pub rests_multiplied : {E : Type 0} (s3 : Held) (result : Result ℕ E) → AnswersOf IsLeastProduct s2 s3 a b result
      → AnswersOf IsLeastProduct s0 s3 a b result
  rests_multiplied s3 result m =
      ended s3 went (IsLeastProduct (family_in s2 a) (family_in s2 b))
      (IsLeastProduct (family_in s0 a) (family_in s0 b)) result
      (λ f is. at_start has.sound went (λ g h. IsLeastProduct g h f) a b has.first has.second is) m

-- ---- the common parts, and the product of the rests

module _ {s0 s1 s2 : Held} {a b rest other first second : ℕ} (are : AreRests s0 a b rest other)
    (gave1 : Gave (IsWithout (family_in s0 a) (family_in s0 rest)) s0 s1 first)
    (gave2 : Gave (IsWithout (family_in s1 b) (family_in s1 other)) s1 s2 second) where
  pub went2 : Went s0 s2
  went2 = then_went gave1 gave2.went

  split : IsWithout (family_in s0 a) (family_in s0 rest) (family_in s2 first)
  split = then_is gave1 gave2.went

  split' : IsWithout (family_in s0 b) (family_in s0 other) (family_in s2 second)
  split' =
      at_start are.has.sound gave1.went (λ f g. IsWithout f g (family_in s2 second)) b other are.has.second
      are.has_other gave2.is

  module _ {s3 : Held} {alone : ℕ}
      (gave3 : Gave (IsLeastUnion (family_in s2 first) (family_in s2 second)) s2 s3 alone) where
    pub went3 : Went s0 s3
    went3 = Went-then went2 gave3.went

    module _ {s4 : Held} {joined : ℕ}
        (gave4 : Gave (IsLeastProduct (family_in s3 rest) (family_in s3 other)) s3 s4 joined) where
      joined_is : IsLeastProduct (family_in s0 rest) (family_in s0 other) (family_in s4 joined)
      joined_is =
          at_start are.has.sound went3 (λ f g. IsLeastProduct f g (family_in s4 joined)) rest other are.has_rest
          are.has_other gave4.is

      pub split_multiplied : {E : Type 0} (s5 : Held) (result : Result ℕ E)
          → AnswersOf IsLeastUnion s4 s5 alone joined result → AnswersOf IsLeastProduct s0 s5 a b result
      split_multiplied s5 result m =
          ended s5 (Went-then went3 gave4.went)
          (IsLeastUnion (family_in s4 alone) (family_in s4 joined)) (IsLeastProduct (family_in s0 a) (family_in s0 b))
          result
          (λ least is. least_product-split (family_in s0 a) (family_in s0 b) (family_in s0 rest) (family_in s0 other)
          (family_in s2 first) (family_in s2 second) (family_in s4 alone) (family_in s4 joined) least are.first
          are.second split split' (then_is gave3 gave4.went) joined_is is) m
