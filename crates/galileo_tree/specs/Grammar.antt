-- The grammar as relations between whole lists: which lexemes spell which statements, what may stand next, and
-- which fault is the first. Nothing here is read from left to right.
use Rattle.std.specs.Prelude.{◌≡◌, true, false, List, [], ◌∷◌, ◌++◌, map, Result, Ok, Err, Some, None}
use Rattle.std.specs.List.{list_all, flat_map}
use Rattle.fault_words.specs.declared.kind.GateKind.{GateKind}
use Rattle.galileo_lexer.specs.{declared.token.LexPlace.LexPlace, declared.token.LexFault.LexFault}
use Rattle.galileo_tree.specs.{declared.raw.RawAttribute.RawAttribute, declared.raw.RawTop.RawTop}
use Rattle.galileo_tree.specs.{declared.raw.RawGate.RawGate, declared.raw.RawBasic.RawBasic}
use Rattle.galileo_tree.specs.{declared.raw.Statement.Statement, declared.fault.What.What}
use Rattle.galileo_tree.specs.{declared.fault.ParseFault.ParseFault, declared.fault.ParseFault.TheVariants.Lex}
use Rattle.galileo_tree.specs.{declared.fault.ParseFault.TheVariants.Expected, ReadTree.ReadTree, GateWord.kind_said}
use Rattle.galileo_tree.specs.{Parsed.attribute_of}
use Rattle.galileo_tree.specs.declared.raw.Statement.TheVariants.{Top, Gate, Basic}
use Rattle.galileo_tree.specs.declared.fault.What.TheVariants as what
use Rattle.galileo_tree.specs.Lexeme.{Lexeme, Stream, place_at, is_equals, is_semicolon, is_bare, is_name, is_value}
use Rattle.galileo_tree.specs.Lexeme.{is_top_word, placed}

-- ---- statements and their spellings

-- a name that begins a statement; the bare word `toplevel` begins a top statement
pub record IsDefinedName (name : Lexeme) : Type 0 where
  pub named : is_name name ≡ true
  pub no_top : is_top_word name ≡ false

-- `toplevel`, a name and `;`
pub record SpellsTop (top : RawTop) (lexemes : List Lexeme) : Type 0 where
  pub word : Lexeme
  pub name : Lexeme
  pub close : Lexeme
  pub spelled : lexemes ≡ word ∷ name ∷ close ∷ []
  pub is_top : is_top_word word ≡ true
  pub named : is_name name ≡ true
  pub closed : is_semicolon close ≡ true
  pub is : top ≡ record { word = word.place; name = placed name }

-- a name, a gate word, names and `;`
pub record SpellsGate (gate : RawGate) (lexemes : List Lexeme) : Type 0 where
  pub name : Lexeme
  pub word : Lexeme
  pub inputs : List Lexeme
  pub close : Lexeme
  pub spelled : lexemes ≡ name ∷ word ∷ inputs ++ close ∷ []
  pub defined : IsDefinedName name
  pub said : kind_said word ≡ Some gate.kind
  pub named : list_all is_name inputs ≡ true
  pub closed : is_semicolon close ≡ true
  pub is : gate ≡ record { name = placed name; word = word.place; kind = gate.kind; inputs = map placed inputs }

-- the three lexemes of an attribute
pub record Written : Type 0 where
  pub word : Lexeme
  pub equals : Lexeme
  pub value : Lexeme

-- the lexemes of an attribute, in their order
abbrev pub lexemes_in : Written → List Lexeme
lexemes_in written = written.word ∷ written.equals ∷ written.value ∷ []

-- a bare name, `=` and a value
pub record IsAttribute (written : Written) : Type 0 where
  pub bare : is_bare written.word ≡ true
  pub equals : is_equals written.equals ≡ true
  pub value : is_value written.value ≡ true

-- the attribute that its three lexemes stand for
abbrev pub attribute_in : Written → RawAttribute
attribute_in written = attribute_of written.word.text written.value

-- each of the attributes is one
abbrev pub AreAttributes : List Written → Type 0
AreAttributes [] = Unit {0}
AreAttributes (written ∷ more) = IsAttribute written × AreAttributes more

-- a name, attributes and `;`
pub record SpellsBasic (basic : RawBasic) (lexemes : List Lexeme) : Type 0 where
  pub name : Lexeme
  pub attributes : List Written
  pub close : Lexeme
  pub spelled : lexemes ≡ name ∷ flat_map lexemes_in attributes ++ close ∷ []
  pub defined : IsDefinedName name
  pub each : AreAttributes attributes
  pub closed : is_semicolon close ≡ true
  pub is : basic ≡ record { name = placed name; attributes = map attribute_in attributes }

-- the lexemes are the spelling of this one statement
abbrev pub Spells : Statement → List Lexeme → Type 0
Spells (Top top) lexemes = SpellsTop top lexemes
Spells (Gate gate) lexemes = SpellsGate gate lexemes
Spells (Basic basic) lexemes = SpellsBasic basic lexemes

-- the lexemes are the spellings of the statements, one after the other
abbrev pub SpellsAll : List Statement → List Lexeme → Type 0
SpellsAll [] lexemes = lexemes ≡ []
SpellsAll (statement ∷ more) lexemes =
    (front : List Lexeme) × (back : List Lexeme) × (lexemes ≡ front ++ back) × Spells statement front
    × SpellsAll more back

-- ---- viable lexemes, and what may stand next

-- some list that begins with these lexemes spells statements
abbrev pub IsViable : List Lexeme → Type 0
IsViable lexemes = (more : List Lexeme) × (statements : List Statement) × SpellsAll statements (lexemes ++ more)

-- What is expected behind the lexemes of an open statement, row by row.
pub data Stands (open_part : List Lexeme) (wanted : What) : Type 0 where
  -- nothing is open
  at_start : open_part ≡ [] → wanted ≡ what.Statement → Stands open_part wanted
  -- the word `toplevel`
  behind_top_word : (word : Lexeme) → open_part ≡ word ∷ [] → is_top_word word ≡ true →
      wanted ≡ what.Name → Stands open_part wanted
  -- the top statement's name
  behind_top_name : (word name : Lexeme) → open_part ≡ word ∷ name ∷ [] → is_top_word word ≡ true →
      is_name name ≡ true → wanted ≡ what.Semicolon → Stands open_part wanted
  -- a defined name
  behind_name : (name : Lexeme) → open_part ≡ name ∷ [] → IsDefinedName name →
      wanted ≡ what.GateOrAttribute → Stands open_part wanted
  -- a bare name that is no gate word, behind a defined name
  behind_first_word : (name word : Lexeme) → open_part ≡ name ∷ word ∷ [] → IsDefinedName name →
      is_bare word ≡ true → kind_said word ≡ None → wanted ≡ what.Equals → Stands open_part wanted
  -- a gate word behind a defined name, and inputs
  behind_inputs : (name word : Lexeme) (kind : GateKind) (inputs : List Lexeme) → open_part ≡ name ∷ word ∷ inputs →
      IsDefinedName name → kind_said word ≡ Some kind → list_all is_name inputs ≡ true →
      wanted ≡ what.Input → Stands open_part wanted
  -- `=`
  behind_equals : (name : Lexeme) (attributes : List Written) (word equals : Lexeme) →
      open_part ≡ name ∷ flat_map lexemes_in attributes ++ word ∷ equals ∷ [] → IsDefinedName name →
      AreAttributes attributes → is_bare word ≡ true → is_equals equals ≡ true →
      wanted ≡ what.Value → Stands open_part wanted
  -- a value
  behind_value : (name : Lexeme) (first : Written) (attributes : List Written) →
      open_part ≡ name ∷ flat_map lexemes_in (first ∷ attributes) → IsDefinedName name →
      AreAttributes (first ∷ attributes) → wanted ≡ what.Attribute → Stands open_part wanted
  -- an attribute word behind a value
  behind_next_word : (name : Lexeme) (first : Written) (attributes : List Written) (word : Lexeme) →
      open_part ≡ name ∷ flat_map lexemes_in (first ∷ attributes) ++ word ∷ [] → IsDefinedName name →
      AreAttributes (first ∷ attributes) → is_bare word ≡ true → wanted ≡ what.Equals → Stands open_part wanted

-- whole statements, and behind them the lexemes of an open one
abbrev pub Expects : List Lexeme → What → Type 0
Expects before wanted =
    (statements : List Statement) × (whole : List Lexeme) × (open_part : List Lexeme)
    × (before ≡ whole ++ open_part) × SpellsAll statements whole × Stands open_part wanted

-- ---- the first fault, and what a text reads as

-- the fault is the first that the lexemes, or the end behind them, have: one of three kinds
pub data IsFirstFault (stream : Stream) (fault : ParseFault) : Type 0 where
  -- the first lexeme with which no viable list goes on
  at_lexeme : (front : List Lexeme) (lexeme : Lexeme) (back : List Lexeme) (wanted : What) →
      stream.lexemes ≡ front ++ lexeme ∷ back → IsViable front → (IsViable (front ++ lexeme ∷ []) → ⊥) →
      Expects front wanted → fault ≡ Expected wanted lexeme.place → IsFirstFault stream fault
  -- the end of the text, where a statement is open
  at_end : (place : LexPlace) (wanted : What) → stream.ending ≡ Ok place → IsViable stream.lexemes →
      ((statements : List Statement) → SpellsAll statements stream.lexemes → ⊥) →
      Expects stream.lexemes wanted → fault ≡ Expected wanted (place_at place) → IsFirstFault stream fault
  -- a token that cannot be formed, behind a viable list
  at_token : (found : LexFault) → stream.ending ≡ Err found → IsViable stream.lexemes →
      fault ≡ Lex found → IsFirstFault stream fault

-- the lexemes spell these statements and the text ends without a fault, or the fault is the first
abbrev pub IsReading : Stream → Result ReadTree ParseFault → Type 0
IsReading stream (Ok tree) =
    SpellsAll tree.statements stream.lexemes × (place : LexPlace) × (stream.ending ≡ Ok place)
    × (tree.end ≡ place_at place)
IsReading stream (Err fault) = IsFirstFault stream fault
