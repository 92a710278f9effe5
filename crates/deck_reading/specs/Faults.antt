-- The faults of a deck, and what a command reads of it: the tree of its tree part, and its crews where the command
-- takes them.
use Rattle.std.specs.Prelude.{◌≡◌, ℕ, List, Option, Some, None, Result, Ok, Err}
use Rattle.fault_definitions.specs.Tree.{FaultTree}
use Rattle.fault_words.specs.declared.place.Place.{Place}
use Rattle.galileo_lexer.specs.Spot.{place_behind}
use Rattle.galileo_tree.specs.{declared.fault.ParseFault.ParseFault, Lexeme.place_at, Parsed.parsed_text}
use Rattle.galileo_tree.specs.{ReadTree.ReadTree}
use Rattle.galileo_tree.specs.declared.fault.ParseFault.TheVariants as parse
use Rattle.tree_check.specs.{Checked.IsFirstFault, declared.fault.CheckCode.CheckCode}
use Rattle.crew_script.specs.{declared.dockets.Crew.Crew, declared.fault.CrewCode.CrewCode}
use Rattle.crew_script.specs.{declared.fault.CrewCode.TheVariants.NoCrewPart, declared.fault.CrewFault.CrewFault}
use Rattle.crew_script.specs.{declared.fault.CrewFault.TheVariants.Fault}
use Rattle.deck_reading.specs.Deck.{StandsFor, crew_part, tree_part}
use Rattle.deck_reading.specs.{declared.fault.DeckFault.DeckFault, declared.deck.CrewPart.CrewPart}
use Rattle.deck_reading.specs.declared.fault.FaultCode.TheVariants as report
use Rattle.deck_reading.specs.declared.deck.CrewPart.TheVariants.{Unread, IfAny, Needed}

-- ---- the tree part

-- What reading gives is refused with this fault: a token or the grammar's, or else the first class of the statements.
-- Reading gives no `NoMemory`: that row is there for the type's sake.
abbrev pub IsFaultOf : Result ReadTree ParseFault → DeckFault → Type 0
IsFaultOf (Err (parse.Lex fault)) found = found ≡ record { code = report.Lex fault.code; place = place_at fault.place }
IsFaultOf (Err (parse.Expected wanted place)) found = found ≡ record { code = report.Expected wanted; place = place }
IsFaultOf (Err parse.NoMemory) found = ⊥
IsFaultOf (Ok read) found = (code : CheckCode) × (found.code ≡ report.Check code) × IsFirstFault read code found.place

-- the first fault of the tree part
abbrev pub IsTreeFault : List ℕ → DeckFault → Type 0
IsTreeFault bytes fault = IsFaultOf (parsed_text (tree_part bytes)) fault

-- ---- the crew part

-- a deck without a crew part, told at its end
abbrev pub no_crew_part : List ℕ → DeckFault
no_crew_part bytes = record { code = report.Crew NoCrewPart; place = place_at (place_behind bytes) }

-- ---- both parts, the crew part as a command takes it

-- a crew part is needed, and there is none
abbrev pub LacksCrews : CrewPart → List ℕ → Type 0
LacksCrews part bytes = (part ≡ Needed) × (crew_part bytes ≡ None)

-- what is read of a crew part: nothing where it is passed over
abbrev pub part_read : {A : Type 0} → CrewPart → Option A → Option A
part_read Unread said = None
part_read IfAny said = said
part_read Needed said = said

-- the crews that were read, none where there was nothing to read
abbrev pub crews_said : Option (Result (List Crew) CrewFault) → Result (Option (List Crew)) CrewFault
crews_said None = Ok None
crews_said (Some (Ok crews)) = Ok (Some crews)
crews_said (Some (Err fault)) = Err fault

-- the crews that a command reads in a deck, none where it reads no crew part or there is none; or the part's fault
abbrev pub crews_read : CrewPart → List ℕ → Result (Option (List Crew)) CrewFault
crews_read part bytes = crews_said (part_read part (crew_part bytes))

-- The deck's first fault, in the order in which faults count: no crew part where one is needed, the fault of the tree
-- part, the fault of the crew part.
pub data IsDeckFault (part : CrewPart) (bytes : List ℕ) (fault : DeckFault) : Type 0 where
  no_crews : LacksCrews part bytes → fault ≡ no_crew_part bytes → IsDeckFault part bytes fault
  bad_tree : ¬ LacksCrews part bytes → IsTreeFault bytes fault → IsDeckFault part bytes fault
  bad_crews : (tree : FaultTree) (code : CrewCode) (place : Place) → StandsFor bytes tree
      → crews_read part bytes ≡ Err (Fault code place) → fault ≡ record { code = report.Crew code; place = place }
      → IsDeckFault part bytes fault

-- the deck has no fault, and stands for this tree and these crews
pub record IsWellFormed (part : CrewPart) (bytes : List ℕ) (tree : FaultTree)
    (crews : Option (List Crew)) : Type 0 where
  pub has_crews : ¬ LacksCrews part bytes
  pub stands : StandsFor bytes tree
  pub said : crews_read part bytes ≡ Ok crews

-- a deck without a fault
abbrev pub HasDeck : CrewPart → List ℕ → Type 0
HasDeck part bytes = (tree : FaultTree) × (crews : Option (List Crew)) × IsWellFormed part bytes tree crews

-- a deck with a first fault
abbrev pub HasDeckFault : CrewPart → List ℕ → Type 0
HasDeckFault part bytes = (fault : DeckFault) × IsDeckFault part bytes fault
