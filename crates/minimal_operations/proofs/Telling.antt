-- What an operation gave is true as an entry, and what an entry tells is an answer.
use Rattle.std.proofs.Common.{◌≡◌, ℕ, List, sym, subst}
use Rattle.family_memory.specs.Memory.{Held, IsSound, Gave, family_in}
use Rattle.family_memory.proofs.After.{Gave-there, still, still_has, at_both}
use Rattle.family_memory.specs.Answers.{IsTold, IsAnswer}
use Rattle.kept_answers.specs.declared.answers.Operation.{Operation}
use Rattle.minimal_operations.specs.Operands.{EndsIn, HasBoth}

pub told_made : (operation : Operation) {before after : Held} (a b : ℕ) {r : ℕ} → HasBoth before a b
    → Gave (IsAnswer operation (family_in before a) (family_in before b)) before after r
    → IsTold after (record { question = record { operation = operation; first = a; second = b }; answer = r })
told_made operation {after} a b {r} has gave = record {
  first = still_has has.sound gave.went a has.first;
  second = still_has has.sound gave.went b has.second;
  answer = gave.has;
  is = at_both (λ f g. IsAnswer operation f g (family_in after r)) (sym (still has.sound gave.went a has.first))
      (sym (still has.sound gave.went b has.second)) gave.is;
}

pub recalled : (operation : Operation) {held : Held} (a b : ℕ) {r : ℕ} → IsSound held
    → IsTold held (record { question = record { operation = operation; first = a; second = b }; answer = r })
    → EndsIn (IsAnswer operation) held a b r
recalled operation a b sound told = Gave-there sound told.answer told.is

-- the memory is as it was, once the answer is kept
pub kept : {Is : List (List ℕ) → Type 0} {before after after' : Held} {r : ℕ} → after' ≡ after → Gave Is before after r
    → Gave Is before after' r
kept {Is = Is} {before = before} {r = r} same gave = subst (λ held. Gave Is before held r) (sym same) gave
