-- Why the reading of a deck, or of a part of it, ends without one: by a fault, or for want of memory, for which no
-- cause is owed.
use Rattle.std.specs.Prelude.{◌≡◌, ◌⊎◌, ℕ, List, Result, Err}
use Rattle.fault_definitions.specs.Tree.{FaultTree}
use Rattle.fault_words.specs.declared.place.Place.{Place}
use Rattle.galileo_tree.specs.{declared.fault.ParseFault.ParseFault, Lexeme.place_at, ReadTree.ReadTree}
use Rattle.galileo_tree.specs.declared.fault.ParseFault.TheVariants as parse
use Rattle.tree_check.specs.{Checked.IsFirstFault, declared.fault.CheckCode.CheckCode}
use Rattle.crew_script.specs.{declared.fault.CrewCode.CrewCode, declared.fault.CrewFault.CrewFault}
use Rattle.crew_script.specs.declared.fault.CrewFault.TheVariants as crew
use Rattle.deck_reading.specs.{declared.deck.CrewPart.CrewPart, declared.deck.DeckEnd.DeckEnd, Deck.StandsFor}
use Rattle.deck_reading.specs.{Faults.IsDeckFault, Faults.IsTreeFault}
use Rattle.deck_reading.specs.declared.deck.DeckEnd.TheVariants as end
use Rattle.deck_reading.specs.declared.fault.FaultCode.TheVariants as report

-- why a text gives no tree: it has this fault, or memory was refused, for which no cause is owed
abbrev pub IsTreeEnd : List ℕ → DeckEnd → Type 0
IsTreeEnd bytes (end.Fault fault) = IsTreeFault bytes fault
IsTreeEnd bytes end.NoMemory = Unit {0}

-- why statements that were read give no tree: this is their first fault, or memory was refused
abbrev pub IsCheckEnd : ReadTree → DeckEnd → Type 0
IsCheckEnd read (end.Fault fault) =
    (code : CheckCode) × (fault.code ≡ report.Check code) × IsFirstFault read code fault.place
IsCheckEnd read end.NoMemory = Unit {0}

-- how the reading of a deck ends by a fault of tokens or of the grammar, or by want of memory
abbrev pub end_of : ParseFault → DeckEnd
end_of (parse.Lex fault) = end.Fault (record { code = report.Lex fault.code; place = place_at fault.place })
end_of (parse.Expected wanted place) = end.Fault (record { code = report.Expected wanted; place = place })
end_of parse.NoMemory = end.NoMemory

-- why a crew part gives no crews: this is its first fault, or memory was refused
abbrev pub IsCrewEnd : {A : Type 0} → Result A CrewFault → DeckEnd → Type 0
IsCrewEnd said (end.Fault fault) =
    (code : CrewCode) × (place : Place) × (said ≡ Err (crew.Fault code place))
    × (fault ≡ record { code = report.Crew code; place = place })
IsCrewEnd said end.NoMemory = Unit {0}

-- why a tree part and a crew part give no deck: a fault of the tree part, else one of the crew part, or no memory
abbrev pub IsPartsEnd : {A : Type 0} → List ℕ → Result A CrewFault → DeckEnd → Type 0
IsPartsEnd bytes said (end.Fault fault) =
    IsTreeFault bytes fault ⊎ ((tree : FaultTree) × StandsFor bytes tree × IsCrewEnd said (end.Fault fault))
IsPartsEnd bytes said end.NoMemory = Unit {0}

-- why a deck is not read: it has this fault, or memory was refused
abbrev pub IsDeckEnd : CrewPart → List ℕ → DeckEnd → Type 0
IsDeckEnd part bytes (end.Fault fault) = IsDeckFault part bytes fault
IsDeckEnd part bytes end.NoMemory = Unit {0}
