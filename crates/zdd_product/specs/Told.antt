-- What the kept entries say, over a map of references.
use Rattle.std.specs.Prelude.{ℕ, List}
use Rattle.zdd_families.specs.{Map.Knows, Map.family, Union.IsUnion, Product.IsProduct, Without.IsWithout}
use Rattle.zdd_families.specs.{Minimal.IsMinimal}
use Rattle.kept_answers.specs.{declared.answers.Operation.Operation, declared.answers.Entry.Entry}
use Rattle.kept_answers.specs.declared.answers.Operation.TheVariants.{Union, Product, Without, Minimal}

-- the family is the operation's of two families; the minimal sets are those of the first
abbrev pub IsResult : Operation → List (List ℕ) → List (List ℕ) → List (List ℕ) → Type 0
IsResult Union f g result = IsUnion f g result
IsResult Product f g result = IsProduct f g result
IsResult Without f g result = IsWithout f g result
IsResult Minimal f g result = IsMinimal f result

-- the entry is true: the map knows its references, and the answer as the operation's family
pub record IsTold (known : ℕ → ℕ) (entry : Entry) : Type 0 where
  pub first : Knows known entry.question.first
  pub second : Knows known entry.question.second
  pub answer : Knows known entry.answer
  pub is : IsResult entry.question.operation (family known entry.question.first) (family known entry.question.second)
      (family known entry.answer)

-- the map knows the reference as what the operation gives of two others
abbrev pub Tells : (ℕ → ℕ) → Operation → ℕ → ℕ → ℕ → Type 0
Tells known operation a b r =
    IsTold known (record { question = record { operation = operation; first = a; second = b }; answer = r })
