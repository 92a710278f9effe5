-- The parts of a deck. The first line `@crews` divides it: the tree part stands before this line, and the crew part
-- behind its line feed. A line ends at a line feed or with the deck, and is `@crews` where it has these bytes alone
-- once one carriage return at its end is dropped.
use Rattle.std.specs.Prelude.{ℕ, ◌+◌, min, Bool, ◌||◌, ◌==◌, if◌then◌else◌, List, [], ◌∷◌, ◌++◌, length, codes, Some}
use Rattle.std.specs.Prelude.{None, nat_eq}
use Rattle.std.specs.{List.slice_split, Cmp.Lexicographic.pointwise}
use Rattle.crew_script.specs.declared.deck.Split.{Split}

-- a line feed
abbrev pub is_feed : ℕ → Bool
is_feed byte = byte == 10

-- the lines of a text, of which the last may be empty
abbrev pub lines_of : List ℕ → List (List ℕ)
lines_of bytes = slice_split is_feed bytes

-- the line divides a deck
abbrev pub is_crews : List ℕ → Bool
is_crews line = pointwise nat_eq line (codes "@crews") || pointwise nat_eq line (codes "@crews" ++ 13 ∷ [])

-- a deck that is divided by the line of this length at this place, under this number
abbrev pub divided : ℕ → ℕ → ℕ → ℕ → Split
divided size place length_of_line number =
    record { tree = place; crews = Some (record { start = min (place + length_of_line + 1) size; line = number + 1 }) }

-- a deck of this size, by its lines from this place and this number on, before which no line divides it
abbrev pub split_by : ℕ → ℕ → ℕ → List (List ℕ) → Split
split_by size place number [] = record { tree = size; crews = None }
split_by size place number (line ∷ lines) =
    if is_crews line then divided size place (length line) number
    else split_by size (place + length line + 1) (number + 1) lines

-- the parts of a deck
abbrev pub split_of : List ℕ → Split
split_of bytes = split_by (length bytes) 0 1 (lines_of bytes)
