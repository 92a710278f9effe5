-- The words of the program: `picture`, and which cut set is to be marked.
use Rattle.std.specs.Prelude.{ℕ, ◌≤◌, if◌then◌else◌, List, [], ◌∷◌, codes, Option, Some, None}
use Rattle.deck_limits.specs.declared.TheConstants.{HIGHEST_CUT}
use Rattle.board_words.specs.Number.{number_within}
use Rattle.board_words.specs.Options.{are_options, is_same, value_of}
use Rattle.picture_engine.specs.declared.words.Mark.{Mark}
use Rattle.picture_engine.specs.declared.words.Mark.TheVariants.{Nothing, Cut}

-- `picture` has the option `--cut`
abbrev pub picture_options : List (List ℕ)
picture_options = codes "--cut" ∷ []

-- the cut set of a number, where there is one
abbrev pub cut_of : Option ℕ → Option Mark
cut_of None = None
cut_of (Some number) = Some (Cut number)

-- nothing where no number is said, and else the cut set of a number from 1 to 999,999
abbrev pub mark_said : Option (List ℕ) → Option Mark
mark_said None = Some Nothing
mark_said (Some value) = cut_of (number_within 1 HIGHEST_CUT value)

-- what the options of `picture` ask to be marked, where they are such and the number is sound
abbrev pub mark_in : List (List ℕ) → Option Mark
mark_in options =
    if are_options picture_options options then mark_said (value_of (codes "--cut") options) else None

-- what the words ask to be marked, where they ask for a picture
abbrev pub asked : List (List ℕ) → Option Mark
asked [] = None
asked (first ∷ options) = if is_same first (codes "picture") then mark_in options else None

-- cut sets are numbered from 1
abbrev pub IsNumbered : Mark → Type 0
IsNumbered Nothing = Unit {0}
IsNumbered (Cut number) = 1 ≤ number
