-- The clause of each answer, by that of both.
use Rattle.std.proofs.Common.{Result, IfOk, IfErr, Ok, Err, ℕ, List}
use Rattle.family_memory.specs.Memory.{Held, Gave, RanOut}
use Rattle.minimal_operations.specs.Operands.{Answers}

module _ {E : Type 0} (Is : List (List ℕ) → Type 0) (before after : Held) where
  pub gives_of : (result : Result ℕ E) → Answers Is before after result → IfOk result (Gave Is before after)
  gives_of (Ok r) gave = gave
  gives_of (Err e) out = tt

  pub spent_of : (result : Result ℕ E) → Answers Is before after result → IfErr result (λ _. RanOut before after)
  spent_of (Ok r) gave = tt
  spent_of (Err e) out = out
