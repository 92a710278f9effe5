-- What the kept entries say, over what a memory holds.
use Rattle.std.specs.Prelude.{ℕ, List}
use Rattle.zdd_families.specs.{Minimal.IsMinimal, Without.IsWithout, Least.IsLeastUnion, Least.IsLeastProduct}
use Rattle.family_memory.specs.Memory.{Held, Has, family_in}
use Rattle.kept_answers.specs.{declared.answers.Operation.Operation, declared.answers.Entry.Entry}
use Rattle.kept_answers.specs.declared.answers.Operation.TheVariants.{Without, Union, Product, Minimal}

-- the family is the operation's of two families; the minimal sets are those of the first
abbrev pub IsAnswer : Operation → List (List ℕ) → List (List ℕ) → List (List ℕ) → Type 0
IsAnswer Without f g answer = IsWithout f g answer
IsAnswer Union f g answer = IsLeastUnion f g answer
IsAnswer Product f g answer = IsLeastProduct f g answer
IsAnswer Minimal f g answer = IsMinimal f answer

-- the entry is true: the memory has its references, and the answer stands for the operation's family
pub record IsTold (held : Held) (entry : Entry) : Type 0 where
  pub first : Has held entry.question.first
  pub second : Has held entry.question.second
  pub answer : Has held entry.answer
  pub is : IsAnswer entry.question.operation (family_in held entry.question.first)
      (family_in held entry.question.second) (family_in held entry.answer)
