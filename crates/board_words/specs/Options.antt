-- Options of a command: words that are an option and its value, an option and its value, and so on.
use Rattle.std.specs.Prelude.{ℕ, Bool, true, false, ◌&&◌, nat_eq, if◌then◌else◌, List, [], ◌∷◌, Option, Some, None}
use Rattle.std.specs.Prelude.{is_none}
use Rattle.std.specs.{List.list_any, Cmp.Lexicographic.pointwise}
use Rattle.board_words.specs.Number.{number_within}

-- two words are the same
abbrev pub is_same : List ℕ → List ℕ → Bool
is_same word other = pointwise nat_eq word other

-- a word is among these
abbrev pub is_known : List (List ℕ) → List ℕ → Bool
is_known known word = list_any (is_same word) known

-- the value that stands behind an option, where the option is said
abbrev pub value_of : List ℕ → List (List ℕ) → Option (List ℕ)
value_of option [] = None
value_of option (word ∷ []) = None
value_of option (word ∷ value ∷ rest) = if is_same word option then Some value else value_of option rest

-- an option is known, and not said among those behind it
abbrev pub is_said_once : List (List ℕ) → List ℕ → List (List ℕ) → Bool
is_said_once known option rest = is_known known option && is_none (value_of option rest)

-- each is known and has a value, and none is said twice
abbrev pub are_options : List (List ℕ) → List (List ℕ) → Bool
are_options known [] = true
are_options known (option ∷ []) = false
are_options known (option ∷ value ∷ rest) = is_said_once known option rest && are_options known rest

-- the number that a value says, within these bounds, and the default where no value is said
abbrev pub number_said : ℕ → ℕ → Option ℕ → Option (List ℕ) → Option ℕ
number_said least most default None = default
number_said least most default (Some value) = number_within least most value
