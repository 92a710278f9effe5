-- The spellings of the commands.
use Rattle.std.specs.Prelude.{◌≡◌, ◌≢◌, ℕ, ◌≤◌, ◌⊎◌, List, [], ◌∷◌, codes, decimal, Option, Some, None}
use Rattle.std.specs.List.{Any}
use Rattle.deck_limits.specs.declared.TheConstants.{GREATEST_MARGIN, HIGHEST_MADE, MOST_ORDERED, MOST_WORKERS}
use Rattle.board_words.specs.declared.command.Command.{Command}
use Rattle.board_words.specs.declared.command.Command.TheVariants.{Cuts, Board, Check, Print, Diagram, Make, Help}
use Rattle.board_words.specs.declared.command.Show.{Show}
use Rattle.board_words.specs.declared.command.Show.TheVariants.{Deck, Summary}
use Rattle.board_words.specs.Command.{cuts_options, board_options, diagram_options, make_options}

-- ---- options with their values

-- an option, and the value that is written behind it
pub record Said : Type 0 where
  pub option : List ℕ
  pub value : List ℕ

-- the words that they are written by
abbrev pub words_of : List Said → List (List ℕ)
words_of [] = []
words_of (said ∷ more) = said.option ∷ said.value ∷ words_of more

-- an option is said with a value
abbrev pub Has : List Said → List ℕ → List ℕ → Type 0
Has [] option value = ⊥
Has (said ∷ more) option value = ((said.option ≡ option) × (said.value ≡ value)) ⊎ Has more option value

-- an option isn't said
abbrev pub Lacks : List Said → List ℕ → Type 0
Lacks [] option = Unit {0}
Lacks (said ∷ more) option = (said.option ≢ option) × Lacks more option

-- each is one of a command's options, and none is said again behind
abbrev pub AreSaid : List (List ℕ) → List Said → Type 0
AreSaid known [] = Unit {0}
AreSaid known (said ∷ more) = Any (λ option. said.option ≡ option) known × Lacks more said.option × AreSaid known more

-- ---- what an option says

-- The number of an option: the one that is written behind it, within these bounds; or the default, where the option
-- isn't said.
pub data SaysNumber (least most : ℕ) (default : Option ℕ) (option : List ℕ) (options : List Said)
    (number : ℕ) : Type 0 where
  written : Has options option (decimal number) → least ≤ number → number ≤ most
      → SaysNumber least most default option options number
  unsaid : Lacks options option → default ≡ Some number → SaysNumber least most default option options number

-- a margin, the greatest at most, and 0 where it isn't said
abbrev pub SaysMargin : List Said → ℕ → Type 0
SaysMargin options margin = SaysNumber 0 GREATEST_MARGIN (Some 0) (codes "--margin") options margin

-- the most members of a set whose orders are listed, 0 to 8, and 6 where it isn't said
abbrev pub SaysMost : List Said → ℕ → Type 0
SaysMost options most = SaysNumber 0 MOST_ORDERED (Some 6) (codes "--most") options most

-- 1 to 16 workers, and 4 where it isn't said
abbrev pub SaysWorkers : List Said → ℕ → Type 0
SaysWorkers options workers = SaysNumber 1 MOST_WORKERS (Some 4) (codes "--workers") options workers

-- the number of a deck that is made, 0 to 999,999, which has to be said
abbrev pub SaysDeckNumber : List Said → ℕ → Type 0
SaysDeckNumber options number = SaysNumber 0 HIGHEST_MADE None (codes "--number") options number

-- `deck` or `summary`, and a summary where nothing is said
pub data SaysShow (options : List Said) : Show → Type 0 where
  deck : Has options (codes "--show") (codes "deck") → SaysShow options Deck
  summary : Has options (codes "--show") (codes "summary") → SaysShow options Summary
  unsaid_show : Lacks options (codes "--show") → SaysShow options Summary

-- ---- commands

-- The words are a spelling of the command: the command's own word, and then its options with their values, in any
-- order.
pub data Spells : Command → List (List ℕ) → Type 0 where
  cuts : (options : List Said) (most workers : ℕ) → AreSaid cuts_options options → SaysMost options most
      → SaysWorkers options workers
      → Spells (Cuts most workers) (codes "cuts" ∷ words_of options)
  board : (options : List Said) (margin most workers : ℕ) → AreSaid board_options options → SaysMargin options margin
      → SaysMost options most
      → SaysWorkers options workers → Spells (Board margin most workers) (codes "board" ∷ words_of options)
  check : Spells Check (codes "check" ∷ [])
  print : Spells Print (codes "print" ∷ [])
  diagram : (options : List Said) (workers : ℕ) → AreSaid diagram_options options → SaysWorkers options workers
      → Spells (Diagram workers) (codes "diagram" ∷ words_of options)
  make : (options : List Said) (number : ℕ) (show : Show) → AreSaid make_options options → SaysDeckNumber options number
      → SaysShow options show
      → Spells (Make number show) (codes "make" ∷ words_of options)
  help : Spells Help (codes "help" ∷ [])

-- the numbers of a command are within their bounds
abbrev pub IsWithinBounds : Command → Type 0
IsWithinBounds (Cuts most workers) = (most ≤ MOST_ORDERED) × (1 ≤ workers) × (workers ≤ MOST_WORKERS)
IsWithinBounds (Board margin most workers) =
    (margin ≤ GREATEST_MARGIN) × (most ≤ MOST_ORDERED) × (1 ≤ workers) × (workers ≤ MOST_WORKERS)
IsWithinBounds Check = Unit {0}
IsWithinBounds Print = Unit {0}
IsWithinBounds (Diagram workers) = (1 ≤ workers) × (workers ≤ MOST_WORKERS)
IsWithinBounds (Make number show) = number ≤ HIGHEST_MADE
IsWithinBounds Help = Unit {0}
