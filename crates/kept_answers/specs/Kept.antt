-- Where the entries of a table of answers come from.
use Rattle.std.specs.Prelude.{◌≡◌, ◌⊎◌, List, All, Contains}
use Rattle.kept_answers.specs.{declared.answers.Entry.Entry, declared.answers.Operation.TheVariants.Without}

-- what stands in a place before the first answer: nothing is left of no sets without no sets
abbrev pub first_entry : Entry
first_entry = record { question = record { operation = Without; first = 0; second = 0 }; answer = 0 }

-- each entry was there before, or is that
abbrev pub AreKept : List Entry → List Entry → Type 0
AreKept before after = All (λ entry. Contains before entry ⊎ (entry ≡ first_entry)) after
