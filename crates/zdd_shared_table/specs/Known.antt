-- What a seat knows is a list of references, each with the word of its node. The words of the table are such a map too.
use Rattle.std.specs.Prelude.{ℕ, zero, suc, ◌==◌, List, [], ◌∷◌, slice_index, if◌then◌else◌}

-- the word of a reference, or 0 where the list has none
abbrev pub find : List (ℕ × ℕ) → ℕ → ℕ
find [] reference = 0
find (pair ∷ pairs) reference = if pair.0 == reference then pair.1 else find pairs reference

-- the word that stands in the slot of a reference, or 0: 0 and 1 are terminals and have no slot
unfoldable pub placed : List ℕ → ℕ → ℕ
placed words zero = 0
placed words (suc zero) = 0
placed words (suc (suc slot)) = slice_index words slot
