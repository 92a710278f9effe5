-- Pieces of a text, one after another.
use Rattle.std.specs.Prelude.{ℕ, ◌==◌, List, [], ◌∷◌, Option, Some, None, if◌then◌else◌}
use Rattle.std.specs.Borrow.{Bor}

-- what follows a piece at the front of a text, or None where the text doesn't begin with it
abbrev pub behind : List ℕ → List ℕ → Option (List ℕ)
behind [] text = Some text
behind (byte ∷ piece) [] = None
behind (byte ∷ piece) (first ∷ text) = if byte == first then behind piece text else None

-- the same of what follows earlier pieces, where these were there
abbrev pub past : List ℕ → Option (List ℕ) → Option (List ℕ)
past piece None = None
past piece (Some text) = behind piece text

-- the bytes that are lent, where there are some
abbrev pub lent : Option (Bor (List ℕ)) → Option (List ℕ)
lent None = None
lent (Some text) = Some text.now
