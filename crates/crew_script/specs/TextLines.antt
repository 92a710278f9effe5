-- The lines of a text, one after the other.
use Rattle.std.specs.Prelude.{◌≡◌, ℕ, List, [], ◌∷◌, Option, Some, None}
use Rattle.std.specs.Borrow.{Bor}
use Rattle.crew_script.specs.Deck.{lines_of}

-- the lines of what is left of a text
abbrev pub left : Option (Bor (List ℕ)) → List (List ℕ)
left None = []
left (Some rest) = lines_of rest.now

-- a line was taken from the front, or none was left
abbrev pub TakesLine : List (List ℕ) → Option (Bor (List ℕ)) → List (List ℕ) → Type 0
TakesLine old None new = old ≡ []
TakesLine old (Some line) new = old ≡ line.now ∷ new
