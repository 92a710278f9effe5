-- Where a deck is divided, as the format puts it: by its first line that is `@crews` once one carriage return at its
-- end is dropped.
use Rattle.std.specs.Prelude.{◌≡◌, ℕ, ◌+◌, ◌==◌, min, false, true, if◌then◌else◌, List, [], ◌∷◌, ◌++◌, length}
use Rattle.std.specs.Prelude.{Option, Some, None}
use Rattle.std.specs.List.{list_any}
use Rattle.crew_script.specs.{declared.deck.CrewsAt.CrewsAt, declared.deck.Split.Split, Deck.is_crews, Deck.lines_of}

-- a line without one carriage return at its end
abbrev pub without_return : List ℕ → List ℕ
without_return [] = []
without_return (byte ∷ []) = if byte == 13 then [] else byte ∷ []
without_return (byte ∷ next ∷ line) = byte ∷ without_return (next ∷ line)

-- how many bytes lines have, each with its line feed
abbrev pub size_of : List (List ℕ) → ℕ
size_of [] = 0
size_of (line ∷ lines) = length line + 1 + size_of lines

-- Of the lines of a deck this one is the first that divides it. The tree part is what stands before it. The crew part
-- begins behind its line feed, where it has one, and its first line has the next number.
pub record IsDividedAt (bytes : List ℕ) (tree : ℕ) (crews : CrewsAt) : Type 0 where
  pub before : List (List ℕ)
  pub line : List ℕ
  pub behind : List (List ℕ)
  pub lines : lines_of bytes ≡ before ++ line ∷ behind
  pub first : list_any is_crews before ≡ false
  pub divides : is_crews line ≡ true
  pub place : tree ≡ size_of before
  pub start : crews.start ≡ min (tree + length line + 1) (length bytes)
  pub number : crews.line ≡ length before + 2

-- where no line divides a deck the tree part is all
abbrev pub CrewsBegin : List ℕ → ℕ → Option CrewsAt → Type 0
CrewsBegin bytes tree None = (tree ≡ length bytes) × (list_any is_crews (lines_of bytes) ≡ false)
CrewsBegin bytes tree (Some crews) = IsDividedAt bytes tree crews

-- the parts of a deck
abbrev pub Divides : List ℕ → Split → Type 0
Divides bytes split = CrewsBegin bytes split.tree split.crews
