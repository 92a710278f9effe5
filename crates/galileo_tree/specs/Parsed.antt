-- What lexemes give, read one after the other: statements, or the first fault. The states are the rows of what
-- the grammar accepts next.
use Rattle.std.specs.Prelude.{ℕ, if◌then◌else◌, List, [], ◌∷◌, ◌++◌, map, Result, Ok, Err, Option, Some, None}
use Rattle.fault_words.specs.{declared.kind.GateKind.GateKind, declared.place.Place.Place}
use Rattle.galileo_lexer.specs.{declared.token.LexPlace.LexPlace, declared.token.LexFault.LexFault, Lexed.tokens_of}
use Rattle.galileo_tree.specs.{declared.raw.Placed.Placed, declared.raw.RawAttribute.RawAttribute}
use Rattle.galileo_tree.specs.{declared.raw.Statement.Statement, declared.fault.What.What}
use Rattle.galileo_tree.specs.{declared.fault.ParseFault.ParseFault, declared.fault.ParseFault.TheVariants.Lex}
use Rattle.galileo_tree.specs.{declared.fault.ParseFault.TheVariants.Expected, ReadTree.ReadTree, GateWord.kind_said}
use Rattle.galileo_tree.specs.declared.raw.Statement.TheVariants.{Top, Gate, Basic}
use Rattle.galileo_tree.specs.declared.fault.What.TheVariants as what
use Rattle.galileo_tree.specs.Lexeme.{Lexeme, Stream, lexeme_of, place_at, is_equals, is_semicolon, is_bare, is_name}
use Rattle.galileo_tree.specs.Lexeme.{is_value, is_top_word, placed}

-- what stands before, of the open statement
pub data State : Type 0 where
  -- no statement is open
  Outside : State
  -- the word `toplevel`
  TopWord : Place → State
  TopName : Place → Placed → State
  -- the defined name
  Defined : Placed → State
  -- the defined name and a gate word
  GateWord : Placed → Lexeme → GateKind → State
  -- the place of the gate word, its kind and the inputs so far
  Inputs : Placed → Place → GateKind → List Placed → State
  -- the attributes so far, and the next one's word
  AttributeWord : Placed → List RawAttribute → List ℕ → State
  AttributeEquals : Placed → List RawAttribute → List ℕ → State
  -- behind a value
  Attributes : Placed → List RawAttribute → State

-- what is expected behind it
abbrev pub expected : State → What
expected Outside = what.Statement
expected (TopWord word) = what.Name
expected (TopName word name) = what.Semicolon
expected (Defined name) = what.GateOrAttribute
expected (GateWord name word kind) = what.Input
expected (Inputs name word kind inputs) = what.Input
expected (AttributeWord name attributes word) = what.Equals
expected (AttributeEquals name attributes word) = what.Value
expected (Attributes name attributes) = what.Attribute

-- what a lexeme does: the statement goes on, it is whole, or the lexeme cannot stand there
pub data Step : Type 0 where
  On : State → Step
  Whole : Statement → Step
  Stop : Step

-- a top statement, of the place of its first word and its name
abbrev pub top_of : Place → Placed → Statement
top_of word name = Top (record { word = word; name = name })

-- a gate's statement, of its name, the place of its gate word, its kind and its inputs
abbrev pub gate_of : Placed → Place → GateKind → List Placed → Statement
gate_of name word kind inputs = Gate (record { name = name; word = word; kind = kind; inputs = inputs })

-- a basic event's statement, of its name and its attributes
abbrev pub basic_of : Placed → List RawAttribute → Statement
basic_of name attributes = Basic (record { name = name; attributes = attributes })

-- an attribute, of its word and the lexeme of its value
abbrev pub attribute_of : List ℕ → Lexeme → RawAttribute
attribute_of word value =
    record { attribute = record { word = word; value = value.text }; value_place = value.place }

-- behind a defined name: a gate word, or the word of an attribute
abbrev pub defined_step : Placed → Lexeme → Option GateKind → Step
defined_step name lexeme (Some kind) = On (GateWord name lexeme kind)
defined_step name lexeme None = if is_bare lexeme then On (AttributeWord name [] lexeme.text) else Stop

-- what a lexeme does in each state
abbrev pub step : State → Lexeme → Step
step Outside lexeme =
    if is_top_word lexeme then On (TopWord lexeme.place)
    else (if is_name lexeme then On (Defined (placed lexeme)) else Stop)
step (TopWord word) lexeme = if is_name lexeme then On (TopName word (placed lexeme)) else Stop
step (TopName word name) lexeme = if is_semicolon lexeme then Whole (top_of word name) else Stop
step (Defined name) lexeme =
    if is_semicolon lexeme then Whole (basic_of name []) else defined_step name lexeme (kind_said lexeme)
step (GateWord name word kind) lexeme =
    if is_semicolon lexeme then Whole (gate_of name word.place kind [])
    else (if is_name lexeme then On (Inputs name word.place kind (placed lexeme ∷ []))
    else (if is_equals lexeme then (if is_bare word then On (AttributeEquals name [] word.text) else Stop)
    else Stop))
step (Inputs name word kind inputs) lexeme =
    if is_semicolon lexeme then Whole (gate_of name word kind inputs)
    else (if is_name lexeme then On (Inputs name word kind (inputs ++ placed lexeme ∷ [])) else Stop)
step (AttributeWord name attributes word) lexeme =
    if is_equals lexeme then On (AttributeEquals name attributes word) else Stop
step (AttributeEquals name attributes word) lexeme =
    if is_value lexeme then On (Attributes name (attributes ++ attribute_of word lexeme ∷ [])) else Stop
step (Attributes name attributes) lexeme =
    if is_semicolon lexeme then Whole (basic_of name attributes)
    else (if is_bare lexeme then On (AttributeWord name attributes lexeme.text) else Stop)

-- a statement in front of what is read behind it
abbrev pub with_statement : Statement → Result ReadTree ParseFault → Result ReadTree ParseFault
with_statement statement (Ok tree) = Ok (record { statements = statement ∷ tree.statements; end = tree.end })
with_statement statement (Err fault) = Err fault

-- the lexemes end where a statement is open
abbrev pub missing : What → Result LexPlace LexFault → ParseFault
missing wanted (Ok place) = Expected wanted (place_at place)
missing wanted (Err fault) = Lex fault

-- the lexemes end where none is open
abbrev pub closed : Result LexPlace LexFault → Result ReadTree ParseFault
closed (Ok place) = Ok (record { statements = []; end = place_at place })
closed (Err fault) = Err (Lex fault)

-- what is read where no lexeme is left: the end of the tree, or what is missing or wrong there
abbrev pub ended : State → Result LexPlace LexFault → Result ReadTree ParseFault
ended Outside ending = closed ending
ended (TopWord word) ending = Err (missing what.Name ending)
ended (TopName word name) ending = Err (missing what.Semicolon ending)
ended (Defined name) ending = Err (missing what.GateOrAttribute ending)
ended (GateWord name word kind) ending = Err (missing what.Input ending)
ended (Inputs name word kind inputs) ending = Err (missing what.Input ending)
ended (AttributeWord name attributes word) ending = Err (missing what.Equals ending)
ended (AttributeEquals name attributes word) ending = Err (missing what.Value ending)
ended (Attributes name attributes) ending = Err (missing what.Attribute ending)

-- what a step gives, with what each state gives behind the lexeme
abbrev pub proceed : Step → ParseFault → (State → Result ReadTree ParseFault) → Result ReadTree ParseFault
proceed (On state) fault next = next state
proceed (Whole statement) fault next = with_statement statement (next Outside)
proceed Stop fault next = Err fault

-- from a state on
abbrev pub parsed : State → List Lexeme → Result LexPlace LexFault → Result ReadTree ParseFault
parsed state [] ending = ended state ending
parsed state (lexeme ∷ lexemes) ending =
    proceed (step state lexeme) (Expected (expected state) lexeme.place)
    (λ then_state. parsed then_state lexemes ending)

-- the lexemes of a text
abbrev pub lexemes_of : List ℕ → Stream
lexemes_of text =
    let read = tokens_of text in record { lexemes = map (lexeme_of text) read.tokens; ending = read.ending }

-- what the lexemes to come and their ending give, from a state on
abbrev pub parsed_from : State → Stream → Result ReadTree ParseFault
parsed_from state stream = parsed state stream.lexemes stream.ending

-- what a whole text gives
abbrev pub parsed_text : List ℕ → Result ReadTree ParseFault
parsed_text text = parsed_from Outside (lexemes_of text)
