-- What a deck is read as, by relations between whole lists: the line that divides it, the tokens of its tree part, the
-- statements that the tokens spell, and the crews that the lines of its crew part say.
use Rattle.std.specs.Prelude.{◌≡◌, ℕ, List, map, take, drop, Some, Result, Ok}
use Rattle.fault_definitions.specs.{Tree.FaultTree, WellFormed.IsTree}
use Rattle.galileo_lexer.specs.{Lexed.Lexed, Pieces.Reads}
use Rattle.galileo_tree.specs.{declared.fault.ParseFault.ParseFault, Grammar.IsReading, Lexeme.Stream, Lexeme.lexeme_of}
use Rattle.galileo_tree.specs.{ReadTree.ReadTree}
use Rattle.tree_check.specs.Checked.{Stands}
use Rattle.crew_script.specs.{CrewsOf.Answers, Deck.lines_of, Divides.Divides, declared.deck.CrewsAt.CrewsAt}
use Rattle.crew_script.specs.{declared.deck.Split.Split, declared.dockets.Crew.Crew, declared.fault.CrewFault.CrewFault}
use Rattle.deck_reading.specs.{declared.fault.DeckFault.DeckFault, Faults.IsFaultOf}

-- the lexemes of the tokens of a text
abbrev pub stream_of : List ℕ → Lexed → Stream
stream_of text read = record { lexemes = map (lexeme_of text) read.tokens; ending = read.ending }

-- The deck is divided so, its tree part is a sequence of blanks, comments and these tokens, and they spell these
-- statements; or the tokens or the grammar have this fault first.
pub record IsReadAs (bytes : List ℕ) (read : Result ReadTree ParseFault) : Type 0 where
  pub split : Split
  pub divides : Divides bytes split
  pub lexed : Lexed
  pub tokens : Reads (take split.tree bytes) lexed
  pub statements : IsReading (stream_of (take split.tree bytes) lexed) read

-- the statements stand for the tree, and no class of faults occurs in them
abbrev pub IsTreeOf : List ℕ → FaultTree → Type 0
IsTreeOf bytes tree = (read : ReadTree) × IsReadAs bytes (Ok read) × Stands read tree × IsTree tree

-- the first fault of the tree part
abbrev pub IsFaultIn : List ℕ → DeckFault → Type 0
IsFaultIn bytes fault = (read : Result ReadTree ParseFault) × IsReadAs bytes read × IsFaultOf read fault

-- the deck is divided where the crew part begins, whose lines say these crews with their requests, or have this fault
-- first
pub record AreCrewsOf (bytes : List ℕ) (said : Result (List Crew) CrewFault) : Type 0 where
  pub split : Split
  pub divides : Divides bytes split
  pub at : CrewsAt
  pub begins : split.crews ≡ Some at
  pub answers : Answers at.line (lines_of (drop at.start bytes)) said
