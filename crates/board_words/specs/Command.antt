-- The command that the words of a command line say. The first word is exactly a command, and options with their values
-- follow it, in any order and each once at most.
use Rattle.std.specs.Prelude.{ℕ, if◌then◌else◌, List, [], ◌∷◌, codes, Option, Some, None}
use Rattle.deck_limits.specs.declared.TheConstants.{GREATEST_MARGIN, HIGHEST_MADE, MOST_ORDERED, MOST_WORKERS}
use Rattle.board_words.specs.declared.command.Command.{Command}
use Rattle.board_words.specs.declared.command.Command.TheVariants.{Cuts, Board, Check, Print, Diagram, Make, Help}
use Rattle.board_words.specs.declared.command.Show.{Show}
use Rattle.board_words.specs.declared.command.Show.TheVariants.{Deck, Summary}
use Rattle.board_words.specs.Options.{is_same, are_options, value_of, number_said}

-- ---- the options of each command

-- `cuts` has the options `--most` and `--workers`
abbrev pub cuts_options : List (List ℕ)
cuts_options = codes "--most" ∷ codes "--workers" ∷ []

-- `board` has the options `--margin`, `--most` and `--workers`
abbrev pub board_options : List (List ℕ)
board_options = codes "--margin" ∷ codes "--most" ∷ codes "--workers" ∷ []

-- `diagram` has the option `--workers`
abbrev pub diagram_options : List (List ℕ)
diagram_options = codes "--workers" ∷ []

-- `make` has the options `--number` and `--show`
abbrev pub make_options : List (List ℕ)
make_options = codes "--number" ∷ codes "--show" ∷ []

-- ---- what each option says

-- a margin, the greatest at most, and 0 where it isn't said
abbrev pub margin_in : List (List ℕ) → Option ℕ
margin_in options = number_said 0 GREATEST_MARGIN (Some 0) (value_of (codes "--margin") options)

-- the most members of a set whose orders are listed, 0 to 8, and 6 where it isn't said
abbrev pub most_in : List (List ℕ) → Option ℕ
most_in options = number_said 0 MOST_ORDERED (Some 6) (value_of (codes "--most") options)

-- 1 to 16 workers, and 4 where it isn't said
abbrev pub workers_in : List (List ℕ) → Option ℕ
workers_in options = number_said 1 MOST_WORKERS (Some 4) (value_of (codes "--workers") options)

-- the number of a deck that is made, 0 to 999,999, which has to be said
abbrev pub number_in : List (List ℕ) → Option ℕ
number_in options = number_said 0 HIGHEST_MADE None (value_of (codes "--number") options)

-- `deck` or `summary`, and a summary where nothing is said
abbrev pub show_said : Option (List ℕ) → Option Show
show_said None = Some Summary
show_said (Some value) =
    if is_same value (codes "deck") then Some Deck else (if is_same value (codes "summary") then Some Summary else None)

-- what `--show` says: `deck` or `summary`, and a summary where it isn't said
abbrev pub show_in : List (List ℕ) → Option Show
show_in options = show_said (value_of (codes "--show") options)

-- ---- commands with what their options say, where each says something

-- `cuts` with the most members of a listed set and the number of workers, where both are sound
abbrev pub cuts_with : Option ℕ → Option ℕ → Option Command
cuts_with None workers = None
cuts_with (Some most) None = None
cuts_with (Some most) (Some workers) = Some (Cuts most workers)

-- `board` with the opening margin, the most members of a listed set and the number of workers, where all are sound
abbrev pub board_with : Option ℕ → Option ℕ → Option ℕ → Option Command
board_with None most workers = None
board_with (Some margin) None workers = None
board_with (Some margin) (Some most) None = None
board_with (Some margin) (Some most) (Some workers) = Some (Board margin most workers)

-- `diagram` with the number of workers, where that is sound
abbrev pub diagram_with : Option ℕ → Option Command
diagram_with None = None
diagram_with (Some workers) = Some (Diagram workers)

-- `make` with the number of the made deck and what is to be shown of it, where both are sound
abbrev pub make_with : Option ℕ → Option Show → Option Command
make_with None show = None
make_with (Some number) None = None
make_with (Some number) (Some show) = Some (Make number show)

-- ---- all commands

-- a command with these options, where the words are such
abbrev pub if_options : List (List ℕ) → List (List ℕ) → Option Command → Option Command
if_options known options command = if are_options known options then command else None

-- the command `cuts` with these options, where they are such and what they say is sound
abbrev pub cuts_of : List (List ℕ) → Option Command
cuts_of options = if_options cuts_options options (cuts_with (most_in options) (workers_in options))

-- the command `board` with these options, where they are such and what they say is sound
abbrev pub board_of : List (List ℕ) → Option Command
board_of options =
    if_options board_options options (board_with (margin_in options) (most_in options) (workers_in options))

-- the command `diagram` with these options, where they are such and what they say is sound
abbrev pub diagram_of : List (List ℕ) → Option Command
diagram_of options = if_options diagram_options options (diagram_with (workers_in options))

-- the command `make` with these options, where they are such and what they say is sound
abbrev pub make_of : List (List ℕ) → Option Command
make_of options = if_options make_options options (make_with (number_in options) (show_in options))

-- a command that has no options
abbrev pub if_alone : Command → List (List ℕ) → Option Command
if_alone command [] = Some command
if_alone command (option ∷ options) = None

-- the command that the words of a command line say; none where they are no spelling of one
abbrev pub command_of : List (List ℕ) → Option Command
command_of [] = None
command_of (first ∷ options) =
    if is_same first (codes "cuts") then cuts_of options
    else (if is_same first (codes "board") then board_of options
    else (if is_same first (codes "check") then if_alone Check options
    else (if is_same first (codes "print") then if_alone Print options
    else (if is_same first (codes "diagram") then diagram_of options
    else (if is_same first (codes "make") then make_of options
    else (if is_same first (codes "help") then if_alone Help options else None))))))
