-- What an operation gives of operands in the other order.
use Rattle.std.proofs.Common.{Result, ℕ, List}
use Rattle.std.proofs.lemmas.Result.{MatchResult-weaker}
use Rattle.family_memory.specs.Memory.{Held, family_in}
use Rattle.family_memory.proofs.After.{Gave-there}
use Rattle.minimal_operations.specs.Operands.{AnswersOf, EndsIn}

module _ (Is : List (List ℕ) → List (List ℕ) → List (List ℕ) → Type 0) where
  pub end_swapped : {held : Held} (a b : ℕ) {r : ℕ} → ((f g h : List (List ℕ)) → Is f g h → Is g f h)
      → EndsIn Is held b a r
      → EndsIn Is held a b r
  end_swapped {held} a b {r} to gave =
      Gave-there gave.went.sound gave.has (to (family_in held b) (family_in held a) (family_in held r) gave.is)

  pub swapped : {E : Type 0} (before after : Held) (a b : ℕ) (result : Result ℕ E)
      → ((f g h : List (List ℕ)) → Is f g h → Is g f h) → AnswersOf Is before after b a result
      → AnswersOf Is before after a b result
  swapped before after a b result to m =
      MatchResult-weaker result m (λ r gave. record {
        went = gave.went;
        has = gave.has;
        is = to (family_in before b) (family_in before a) (family_in after r) gave.is;
      }) (λ _ out. out)
