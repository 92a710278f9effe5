-- What a step of the reader gives is what the lexemes give from there on.
use Rattle.std.specs.Prelude.{◌≡◌, ℕ, ◌<◌, List, [], ◌∷◌, ◌++◌, length, Result, Ok, Err, Option, Some, None}
use Rattle.galileo_lexer.specs.{declared.token.LexPlace.LexPlace, declared.token.LexFault.LexFault}
use Rattle.galileo_tree.specs.{declared.raw.Statement.Statement, declared.raw.Placed.Placed}
use Rattle.galileo_tree.specs.{declared.raw.RawAttribute.RawAttribute, declared.raw.RawGate.RawGate}
use Rattle.galileo_tree.specs.{declared.raw.Statement.TheVariants.Gate, declared.fault.What.What}
use Rattle.galileo_tree.specs.{declared.fault.ParseFault.ParseFault, ReadTree.ReadTree}
use Rattle.galileo_tree.specs.declared.fault.ParseFault.TheVariants.{Lex, Expected, NoMemory}
use Rattle.galileo_tree.specs.Lexeme.{Lexeme, Stream, place_at, placed}
use Rattle.fault_words.specs.declared.place.Place.{Place}
use Rattle.galileo_tree.specs.Parsed.{State, Outside, Inputs, AttributeEquals, Attributes, basic_of, missing}
use Rattle.galileo_tree.specs.Parsed.{with_statement, parsed_from}

-- a lexeme was taken from the front
pub record TakesFirst (old : Stream) (lexeme : Lexeme) (new : Stream) : Type 0 where
  pub first : old.lexemes ≡ lexeme ∷ new.lexemes
  pub same_ending : new.ending ≡ old.ending

-- no lexeme is left, and this is the text's end or its fault
pub record EndsIn (old : Stream) (given : Result LexPlace LexFault) : Type 0 where
  pub none_left : old.lexemes ≡ []
  pub ending : old.ending ≡ given

-- the next lexeme, or none at the end, or the fault of the text
abbrev pub Nexts : Stream → Result (Option Lexeme) ParseFault → Stream → Type 0
Nexts old (Ok (Some lexeme)) new = TakesFirst old lexeme new
Nexts old (Ok None) new = (place : LexPlace) × EndsIn old (Ok place) × (new ≡ old)
Nexts old (Err fault) new = (found : LexFault) × EndsIn old (Err found) × (fault ≡ Lex found)

-- the next lexeme, or what is missing
abbrev pub Wants : What → Stream → Result Lexeme ParseFault → Stream → Type 0
Wants wanted old (Ok lexeme) new = TakesFirst old lexeme new
Wants wanted old (Err fault) new = (old.lexemes ≡ []) × (fault ≡ missing wanted old.ending)

-- unless memory ran out the fault is what is read
abbrev pub FailsAs : ParseFault → Result ReadTree ParseFault → Type 0
FailsAs NoMemory read = Unit {0}
FailsAs (Lex fault) read = read ≡ Err (Lex fault)
FailsAs (Expected wanted place) read = read ≡ Err (Expected wanted place)

-- what is left is less, and gives what all gave
pub record GoesOn (state : State) (old : Stream) (later : State) (new : Stream) : Type 0 where
  pub same : parsed_from state old ≡ parsed_from later new
  pub fewer : length new.lexemes < length old.lexemes

-- a statement ends
pub record Closes (state : State) (old : Stream) (statement : Statement) (new : Stream) : Type 0 where
  pub same : parsed_from state old ≡ with_statement statement (parsed_from Outside new)
  pub fewer : length new.lexemes < length old.lexemes

-- the open statement is read to its end, or the fault is found
abbrev pub Reads : State → Stream → Result Statement ParseFault → Stream → Type 0
Reads state old (Ok statement) new = Closes state old statement new
Reads state old (Err fault) new = FailsAs fault (parsed_from state old)

-- a gate with one more input
abbrev pub with_input : Lexeme → RawGate → RawGate
with_input lexeme gate = record gate { inputs = gate.inputs ++ placed lexeme ∷ [] }

-- the inputs of a gate, behind those that it has, are read to its end, or the fault is found
abbrev pub ReadsInputs : {A : Type 0} → RawGate → Stream → Result A ParseFault → RawGate → Stream → Type 0
ReadsInputs gate old (Ok x) whole new = Closes (Inputs gate.name gate.word gate.kind gate.inputs) old (Gate whole) new
ReadsInputs gate old (Err fault) whole new =
    FailsAs fault (parsed_from (Inputs gate.name gate.word gate.kind gate.inputs) old)

-- the statement goes on in a state that does not depend on a value
abbrev pub Steps : {A : Type 0} → State → Stream → State → Result A ParseFault → Stream → Type 0
Steps state old later (Ok x) new = GoesOn state old later new
Steps state old later (Err fault) new = FailsAs fault (parsed_from state old)

-- the value of an attribute whose `=` was read
abbrev pub Values : Placed → List RawAttribute → List ℕ → Stream → Result RawAttribute ParseFault → Stream → Type 0
Values name attributes word old (Ok attribute) new =
    GoesOn (AttributeEquals name attributes word) old (Attributes name (attributes ++ attribute ∷ [])) new
Values name attributes word old (Err fault) new = FailsAs fault (parsed_from (AttributeEquals name attributes word) old)

-- behind a value: the next attribute's word and its `=`, or the end of the statement
abbrev pub NextWord : Placed → List RawAttribute → Stream → Result (Option (List ℕ)) ParseFault → Stream → Type 0
NextWord name attributes old (Ok (Some word)) new =
    GoesOn (Attributes name attributes) old (AttributeEquals name attributes word) new
NextWord name attributes old (Ok None) new =
    (parsed_from (Attributes name attributes) old ≡ with_statement (basic_of name attributes) (parsed_from Outside new))
    × (length new.lexemes < length old.lexemes)
NextWord name attributes old (Err fault) new = FailsAs fault (parsed_from (Attributes name attributes) old)

-- a lexeme that was taken is put back
abbrev pub before : Lexeme → Stream → Stream
before lexeme stream = record { lexemes = lexeme ∷ stream.lexemes; ending = stream.ending }

-- no lexeme is left, and the text ends without a fault
abbrev pub IsAtEnd : Stream → Type 0
IsAtEnd stream = (place : LexPlace) × EndsIn stream (Ok place)

-- the place of that end
abbrev pub EndsAt : Stream → Place → Type 0
EndsAt stream place = (at : LexPlace) × (stream.ending ≡ Ok at) × (place ≡ place_at at)
