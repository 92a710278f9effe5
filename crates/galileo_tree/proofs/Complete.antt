-- The spelling of statements is read as these statements, and each row of what may stand next is reached.
use Rattle.std.proofs.Common.{◌≡◌, true, List, [], ◌∷◌, ◌++◌, Result, Ok, Err, Option, Some, None, refl}
use Rattle.std.proofs.Common.{sym, ap, ◌∙◌, append_assoc}
use Rattle.std.specs.{Prelude.map, List.list_all, List.flat_map}
use Rattle.std.proofs.{lemmas.Bool.and_parts, lemmas.List.append-nil}
use Rattle.fault_words.specs.{declared.kind.GateKind.GateKind, declared.place.Place.Place}
use Rattle.galileo_lexer.specs.{declared.token.LexPlace.LexPlace, declared.token.LexFault.LexFault}
use Rattle.galileo_tree.specs.{declared.raw.Placed.Placed, declared.raw.RawTop.RawTop, declared.raw.RawGate.RawGate}
use Rattle.galileo_tree.specs.{declared.raw.RawBasic.RawBasic, declared.raw.RawAttribute.RawAttribute}
use Rattle.galileo_tree.specs.{declared.raw.Statement.Statement, declared.fault.ParseFault.ParseFault}
use Rattle.galileo_tree.specs.{declared.fault.ParseFault.TheVariants.Expected, ReadTree.ReadTree, GateWord.kind_said}
use Rattle.galileo_tree.specs.declared.raw.Statement.TheVariants.{Top, Gate, Basic}
use Rattle.galileo_tree.specs.Lexeme.{Lexeme, is_equals, is_semicolon, is_bare, is_name, placed}
use Rattle.galileo_tree.specs.Parsed.{State, Outside, Defined, GateWord, Inputs}
use Rattle.galileo_tree.specs.Parsed.{AttributeEquals, Attributes, Step, Whole, step, expected, proceed, parsed}
use Rattle.galileo_tree.specs.Parsed.{with_statement, gate_of, basic_of}
use Rattle.galileo_tree.specs.Grammar.{Written, lexemes_in, attribute_in, AreAttributes, Spells}
use Rattle.galileo_tree.specs.Grammar.{SpellsAll}
use Rattle.galileo_tree.proofs.LexemeKinds.{name_alone, bare_alone, equals_alone, said_alone}
use Rattle.galileo_tree.proofs.Parses.{with_front, with_front-none}

abbrev Ending : Type 0
Ending = Result LexPlace LexFault

-- what is read behind a lexeme is what its step gives
pub step_run : (state : State) (lexeme : Lexeme) (rest : List Lexeme) (ending : Ending) {does : Step}
    → step state lexeme ≡ does → parsed state (lexeme ∷ rest) ending
    ≡ proceed does (Expected (expected state) lexeme.place) (λ next. parsed next rest ending)
step_run state lexeme rest ending does =
    ap (λ s. proceed s (Expected (expected state) lexeme.place) (λ next. parsed next rest ending)) does

-- inputs behind inputs
inputs_more : (name : Placed) (word : Place) (kind : GateKind) (before : List Placed) (inputs rest : List Lexeme)
    (ending : Ending) → list_all is_name inputs ≡ true →
    parsed (Inputs name word kind before) (inputs ++ rest) ending
    ≡ parsed (Inputs name word kind (before ++ map placed inputs)) rest ending
inputs_more name word kind before [] rest ending each =
    ap (λ all. parsed (Inputs name word kind all) rest ending) (sym (append-nil before))
inputs_more name word kind before (input ∷ inputs) rest ending each =
    let parts = and_parts (is_name input) _ each in
    rw (name_alone input parts.0, parts.0)
    (inputs_more name word kind (before ++ placed input ∷ []) inputs rest ending parts.1
    ∙ ap (λ all. parsed (Inputs name word kind all) rest ending)
    (append_assoc before (placed input ∷ []) (map placed inputs)))

-- behind the gate word: no inputs yet, or some
abbrev pub inputs_state : Placed → Lexeme → GateKind → List Lexeme → State
inputs_state name word kind [] = GateWord name word kind
inputs_state name word kind (input ∷ inputs) = Inputs name word.place kind (map placed (input ∷ inputs))

pub inputs_run : (name : Placed) (word : Lexeme) (kind : GateKind) (inputs rest : List Lexeme) (ending : Ending) →
    list_all is_name inputs ≡ true →
    parsed (GateWord name word kind) (inputs ++ rest) ending ≡ parsed (inputs_state name word kind inputs) rest ending
inputs_run name word kind [] rest ending each = refl
inputs_run name word kind (input ∷ inputs) rest ending each =
    let parts = and_parts (is_name input) _ each in
    rw (name_alone input parts.0, parts.0)
    (inputs_more name word.place kind (placed input ∷ []) inputs rest ending parts.1)

inputs_close : (name : Placed) (word : Lexeme) (kind : GateKind) (inputs : List Lexeme) (close : Lexeme)
    → is_semicolon close ≡ true →
    step (inputs_state name word kind inputs) close ≡ Whole (gate_of name word.place kind (map placed inputs))
inputs_close name word kind [] close is = rw is refl
inputs_close name word kind (input ∷ inputs) close is = rw is refl

-- attributes behind attributes
attributes_more : (name : Placed) (before : List RawAttribute) (attributes : List Written) (rest : List Lexeme)
    (ending : Ending) →
    AreAttributes attributes →
    parsed (Attributes name before) (flat_map lexemes_in attributes ++ rest) ending
    ≡ parsed (Attributes name (before ++ map attribute_in attributes)) rest ending
attributes_more name before [] rest ending each =
    ap (λ all. parsed (Attributes name all) rest ending) (sym (append-nil before))
attributes_more name before (written ∷ attributes) rest ending each =
    rw (bare_alone written.word each.0.bare, each.0.bare, each.0.equals, each.0.value)
    (attributes_more name (before ++ attribute_in written ∷ []) attributes rest ending each.1
    ∙ ap (λ all. parsed (Attributes name all) rest ending)
    (append_assoc before (attribute_in written ∷ []) (map attribute_in attributes)))

-- the first attribute's word, which may be a gate word, and its `=`
first_said : (name : Placed) (word equals : Lexeme) (rest : List Lexeme) (ending : Ending) (said : Option GateKind)
    → kind_said word ≡ said → is_bare word ≡ true → is_equals equals ≡ true →
    parsed (Defined name) (word ∷ equals ∷ rest) ending ≡ parsed (AttributeEquals name [] word.text) rest ending
first_said name word equals rest ending (Some kind) said bare is =
    let alone = equals_alone equals is in rw (bare_alone word bare, said, alone.0, alone.1, is, bare) refl
first_said name word equals rest ending None said bare is = rw (bare_alone word bare, said, bare, is) refl

pub first_equals_run : (name : Placed) (word equals : Lexeme) (rest : List Lexeme) (ending : Ending) →
    is_bare word ≡ true → is_equals equals ≡ true →
    parsed (Defined name) (word ∷ equals ∷ rest) ending ≡ parsed (AttributeEquals name [] word.text) rest ending
first_equals_run name word equals rest ending bare is =
    first_said name word equals rest ending (kind_said word) refl bare is

-- behind the name: no attributes yet, or some
abbrev pub attributes_state : Placed → List Written → State
attributes_state name [] = Defined name
attributes_state name (written ∷ attributes) = Attributes name (map attribute_in (written ∷ attributes))

pub attributes_run : (name : Placed) (attributes : List Written) (rest : List Lexeme) (ending : Ending)
    → AreAttributes attributes →
    parsed (Defined name) (flat_map lexemes_in attributes ++ rest) ending
    ≡ parsed (attributes_state name attributes) rest ending
attributes_run name [] rest ending each = refl
attributes_run name (written ∷ attributes) rest ending each =
    let more = flat_map lexemes_in attributes ++ rest in
    first_equals_run name written.word written.equals (written.value ∷ more) ending each.0.bare each.0.equals
    ∙ rw each.0.value (attributes_more name (attribute_in written ∷ []) attributes rest ending each.1)

-- the word and the `=` of the next attribute, whichever it is
pub word_equals_run : (name : Placed) (attributes : List Written) (word equals : Lexeme) (rest : List Lexeme)
    (ending : Ending) →
    is_bare word ≡ true → is_equals equals ≡ true →
    parsed (attributes_state name attributes) (word ∷ equals ∷ rest) ending
    ≡ parsed (AttributeEquals name (map attribute_in attributes) word.text) rest ending
word_equals_run name [] word equals rest ending bare is = first_equals_run name word equals rest ending bare is
word_equals_run name (written ∷ attributes) word equals rest ending bare is =
    rw (bare_alone word bare, bare, is) refl

attributes_close : (name : Placed) (attributes : List Written) (close : Lexeme) → is_semicolon close ≡ true →
    step (attributes_state name attributes) close ≡ Whole (basic_of name (map attribute_in attributes))
attributes_close name [] close is = rw is refl
attributes_close name (written ∷ attributes) close is = rw is refl

-- the spelling of a statement is read as that statement
pub spelled_run : (statement : Statement) (lexemes rest : List Lexeme) (ending : Ending) → Spells statement lexemes →
    parsed Outside (lexemes ++ rest) ending ≡ with_statement statement (parsed Outside rest ending)
spelled_run (Top top) lexemes rest ending is =
    rw (is.spelled, is.is_top, is.named, is.closed)
    (ap (λ (t : RawTop). with_statement (Top t) (parsed Outside rest ending)) (sym is.is))
spelled_run (Gate gate) lexemes rest ending is =
    let name = placed is.name in
    rw (is.spelled, is.defined.no_top, is.defined.named, said_alone is.word gate.kind is.said, is.said)
    (ap (λ all. parsed (GateWord name is.word gate.kind) all ending) (append_assoc is.inputs (is.close ∷ []) rest)
    ∙ inputs_run name is.word gate.kind is.inputs (is.close ∷ rest) ending is.named
    ∙ step_run (inputs_state name is.word gate.kind is.inputs) is.close rest ending
    (inputs_close name is.word gate.kind is.inputs is.close is.closed)
    ∙ ap (λ (g : RawGate). with_statement (Gate g) (parsed Outside rest ending)) (sym is.is))
spelled_run (Basic basic) lexemes rest ending is =
    let name = placed is.name in
    let attributes = flat_map lexemes_in is.attributes in
    rw (is.spelled, is.defined.no_top, is.defined.named)
    (ap (λ all. parsed (Defined name) all ending) (append_assoc attributes (is.close ∷ []) rest)
    ∙ attributes_run name is.attributes (is.close ∷ rest) ending is.each
    ∙ step_run (attributes_state name is.attributes) is.close rest ending
    (attributes_close name is.attributes is.close is.closed)
    ∙ ap (λ (b : RawBasic). with_statement (Basic b) (parsed Outside rest ending)) (sym is.is))

with_front-statement : (statement : Statement) (more : List Statement) (read : Result ReadTree ParseFault) →
    with_statement statement (with_front more read) ≡ with_front (statement ∷ more) read
with_front-statement statement more (Ok tree) = refl
with_front-statement statement more (Err fault) = refl

-- so are the spellings of statements
pub all_run : (statements : List Statement) (lexemes rest : List Lexeme) (ending : Ending)
    → SpellsAll statements lexemes →
    parsed Outside (lexemes ++ rest) ending ≡ with_front statements (parsed Outside rest ending)
all_run [] lexemes rest ending spells = rw spells (with_front-none (parsed Outside rest ending))
all_run (statement ∷ more) lexemes rest ending spells =
    let front = spells.0 in
    let back = spells.1 in
    ap (λ all. parsed Outside (all ++ rest) ending) spells.2
    ∙ ap (λ all. parsed Outside all ending) (append_assoc front back rest)
    ∙ spelled_run statement front (back ++ rest) ending spells.3
    ∙ ap (with_statement statement) (all_run more back rest ending spells.4)
    ∙ with_front-statement statement more (parsed Outside rest ending)
