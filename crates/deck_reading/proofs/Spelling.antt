-- The lexemes of written statements spell these statements.
use Rattle.std.proofs.Common.{◌≡◌, ℕ, Bool, true, false, List, [], ◌∷◌, ◌++◌, Some, refl, ap, ◌∙◌}
use Rattle.std.specs.Prelude.{◌&&◌, not, map, codes}
use Rattle.std.specs.{List.list_all, List.flat_map, Str.str_eq_ignore_ascii_case}
use Rattle.std.proofs.lemmas.Bool.{and_from, and_parts}
use Rattle.std.proofs.lemmas.List.Elements.{All-head, All-tail}
use Rattle.fault_words.specs.{declared.attribute.Attribute.Attribute, declared.kind.GateKind.GateKind}
use Rattle.fault_words.specs.{Name.is_bare_name, Name.is_name as is_name_text}
use Rattle.galileo_lexer.specs.{declared.spot.Spot.Spot, declared.token.TokenKind.TokenKind, Bytes.is_word_byte}
use Rattle.galileo_lexer.specs.{Spot.walk}
use Rattle.galileo_lexer.specs.declared.token.TokenKind.TheVariants.{Word, Quoted, Equals, Semicolon}
use Rattle.galileo_lexer.specs.Pieces.{Piece, Blank, AWord, bytes_of}
use Rattle.galileo_tree.specs.{declared.raw.Placed.Placed, declared.raw.RawAttribute.RawAttribute}
use Rattle.galileo_tree.specs.{declared.raw.RawTop.RawTop, declared.raw.RawGate.RawGate, declared.raw.RawBasic.RawBasic}
use Rattle.galileo_tree.specs.{declared.raw.Statement.Statement, ReadTree.HasShortNumbers, GateWord.kind_said}
use Rattle.galileo_tree.specs.declared.raw.Statement.TheVariants as raw
use Rattle.galileo_tree.specs.Lexeme.{Lexeme, is_bare, is_equals, is_name, is_semicolon, is_top_word, is_value, placed}
use Rattle.galileo_tree.specs.Grammar.{AreAttributes, IsDefinedName, Spells, SpellsAll, SpellsBasic, SpellsGate}
use Rattle.galileo_tree.specs.Grammar.{SpellsTop, Written, attribute_in, lexemes_in as attribute_lexemes}
use Rattle.deck_reading.specs.Written.{AreGood, Bare, InQuotes, IsGood, Top, Gate, Basic, WrittenName, WrittenStatement}
use Rattle.deck_reading.specs.Written.{is_good_attribute, is_good_definition, is_good_name}
use Rattle.text_pieces.specs.GateWords.{gate_word}
use Rattle.deck_reading.specs.Unplaced.{SaysAll, attributed, named, said, unplaced, unplaced_attribute, unplaced_name}
use Rattle.deck_reading.proofs.GateWords.{gate_word_said}
use Rattle.deck_reading.proofs.Pieces.{all_pieces, attribute_pieces, defined_good, end_pieces, input_pieces, name_piece}
use Rattle.deck_reading.proofs.Pieces.{spelled, statement_pieces, value_piece}
use Rattle.deck_reading.proofs.Lexemes.{lexeme_at, lexemes-append, lexemes_from}

-- ---- tests of lexemes

semicolon_is : (spot : Spot) → is_semicolon (lexeme_at spot Semicolon (59 ∷ [])) ≡ true
unfolding is_semicolon
semicolon_is spot = refl

equals_is : (spot : Spot) → is_equals (lexeme_at spot Equals (61 ∷ [])) ≡ true
unfolding is_equals
equals_is spot = refl

top_word_is : (spot : Spot) → is_top_word (lexeme_at spot Word (codes "toplevel")) ≡ true
unfolding is_top_word
top_word_is spot = refl

word_bare : (spot : Spot) (name : List ℕ) → is_bare_name name ≡ true → is_bare (lexeme_at spot Word name) ≡ true
unfolding is_bare
word_bare spot name is = is

word_said : (spot : Spot) (kind : GateKind) → HasShortNumbers kind
    → kind_said (lexeme_at spot Word (gate_word kind)) ≡ Some kind
unfolding kind_said
word_said spot kind short = gate_word_said kind short

-- ---- names

abbrev name_kind : WrittenName → TokenKind
name_kind (Bare name) = Word
name_kind (InQuotes name) = Quoted

abbrev name_bytes : WrittenName → List ℕ
name_bytes (Bare name) = name
name_bytes (InQuotes name) = name

abbrev name_lexeme : Spot → WrittenName → Lexeme
name_lexeme spot name = lexeme_at spot (name_kind name) (name_bytes name)

name_first : (spot : Spot) (name : WrittenName) (pieces : List Piece)
    → lexemes_from spot (name_piece name ∷ pieces) ≡ name_lexeme spot name ∷ lexemes_from
    (walk spot (bytes_of (name_piece name))) pieces
name_first spot (Bare name) pieces = refl
name_first spot (InQuotes name) pieces = refl

name_named : (spot : Spot) (name : WrittenName) → is_good_name name ≡ true → is_name (name_lexeme spot name) ≡ true
unfolding is_name is_bare
name_named spot (Bare name) good = (and_parts (is_name_text name) (is_bare_name name) good).1
name_named spot (InQuotes name) good = refl

not_true : (b : Bool) → not b ≡ true → b ≡ false
not_true true is = absurd (cc)
not_true false is = refl

name_no_top : (spot : Spot) (name : WrittenName) → is_good_definition name ≡ true
    → is_top_word (name_lexeme spot name) ≡ false
unfolding is_top_word
name_no_top spot (Bare name) good =
    not_true (str_eq_ignore_ascii_case name (codes "toplevel"))
    (and_parts (is_name_text name && is_bare_name name) (not (str_eq_ignore_ascii_case name (codes "toplevel"))) good).1
name_no_top spot (InQuotes name) good = refl

name_defined : (spot : Spot) (name : WrittenName) → is_good_definition name ≡ true
    → IsDefinedName (name_lexeme spot name)
name_defined spot name good =
    record { named = name_named spot name (defined_good name good); no_top = name_no_top spot name good }

name_said : (spot : Spot) (name : WrittenName) → unplaced_name (placed (name_lexeme spot name)) ≡ named name
name_said spot (Bare name) = refl
name_said spot (InQuotes name) = refl

-- ---- inputs

abbrev inputs_from : Spot → List WrittenName → List Lexeme
inputs_from spot inputs = lexemes_from spot (flat_map input_pieces inputs)

-- the first is a name behind a blank
input_first : (spot : Spot) (name : WrittenName) (inputs : List WrittenName)
    → inputs_from spot (name ∷ inputs) ≡ name_lexeme (walk spot (32 ∷ [])) name ∷ inputs_from
    (walk (walk spot (32 ∷ [])) (bytes_of (name_piece name))) inputs
input_first spot name inputs = name_first (walk spot (32 ∷ [])) name (flat_map input_pieces inputs)

inputs_named : (spot : Spot) (inputs : List WrittenName) → list_all is_good_name inputs ≡ true
    → list_all is_name (inputs_from spot inputs) ≡ true
inputs_named spot [] good = refl
inputs_named spot (name ∷ inputs) good =
    let parts = and_parts (is_good_name name) (list_all is_good_name inputs) good in
    let at = walk spot (32 ∷ []) in
    let more = inputs_from (walk at (bytes_of (name_piece name))) inputs in
    ap (list_all is_name) (input_first spot name inputs)
    ∙ and_from (is_name (name_lexeme at name)) (list_all is_name more) (name_named at name parts.0)
    (inputs_named (walk at (bytes_of (name_piece name))) inputs parts.1)

inputs_said : (spot : Spot) (inputs : List WrittenName) → map unplaced_name
    (map placed (inputs_from spot inputs)) ≡ map named inputs
inputs_said spot [] = refl
inputs_said spot (name ∷ inputs) =
    let at = walk spot (32 ∷ []) in
    let more = walk at (bytes_of (name_piece name)) in
    ap (λ l. map unplaced_name (map placed l)) (input_first spot name inputs)
    ∙ ap (λ n. n ∷ map unplaced_name (map placed (inputs_from more inputs))) (name_said at name)
    ∙ ap (λ l. named name ∷ l) (inputs_said more inputs)

-- ---- attributes

abbrev value_kind : Bool → TokenKind
value_kind true = Word
value_kind false = Quoted

abbrev value_lexeme : Spot → List ℕ → Lexeme
value_lexeme spot value = lexeme_at spot (value_kind (list_all is_word_byte value)) value

value_first : (spot : Spot) (b : Bool) (value : List ℕ) (pieces : List Piece)
    → lexemes_from spot (value_piece b value ∷ pieces) ≡ lexeme_at spot (value_kind b) value ∷ lexemes_from
    (walk spot (bytes_of (value_piece b value))) pieces
value_first spot true value pieces = refl
value_first spot false value pieces = refl

value_is : (spot : Spot) (b : Bool) (value : List ℕ) → is_value (lexeme_at spot (value_kind b) value) ≡ true
unfolding is_value
value_is spot true value = refl
value_is spot false value = refl

-- behind the blank, behind the word, behind the equals sign
abbrev word_spot : Spot → Spot
word_spot spot = walk spot (32 ∷ [])

abbrev equals_spot : Spot → Attribute → Spot
equals_spot spot attribute = walk (word_spot spot) attribute.word

abbrev value_spot : Spot → Attribute → Spot
value_spot spot attribute = walk (equals_spot spot attribute) (61 ∷ [])

abbrev next_spot : Spot → Attribute → Spot
next_spot spot attribute = walk (value_spot spot attribute)
    (bytes_of (value_piece (list_all is_word_byte attribute.value) attribute.value))

abbrev written_at : Spot → Attribute → Written
written_at spot attribute = record {
  word = lexeme_at (word_spot spot) Word attribute.word;
  equals = lexeme_at (equals_spot spot attribute) Equals (61 ∷ []);
  value = value_lexeme (value_spot spot attribute) attribute.value;
}

abbrev attributes_from : Spot → List Attribute → List Written
attributes_from spot [] = []
attributes_from spot (attribute ∷ attributes) = written_at spot attribute ∷ attributes_from
    (next_spot spot attribute) attributes

attributes_spelled : (spot : Spot) (attributes : List Attribute)
    → lexemes_from spot (flat_map attribute_pieces attributes) ≡ flat_map attribute_lexemes
    (attributes_from spot attributes)
attributes_spelled spot [] = refl
attributes_spelled spot (attribute ∷ attributes) =
    let word = lexeme_at (word_spot spot) Word attribute.word in
    let equals = lexeme_at (equals_spot spot attribute) Equals (61 ∷ []) in
    ap (λ l. word ∷ equals ∷ l) (value_first (value_spot spot attribute)
    (list_all is_word_byte attribute.value) attribute.value (flat_map attribute_pieces attributes))
    ∙ ap (λ l. word ∷ equals ∷ value_lexeme (value_spot spot attribute) attribute.value ∷ l)
    (attributes_spelled (next_spot spot attribute) attributes)

attributes_are : (spot : Spot) (attributes : List Attribute) → list_all is_good_attribute attributes ≡ true
    → AreAttributes (attributes_from spot attributes)
attributes_are spot [] good = tt
attributes_are spot (attribute ∷ attributes) good =
    let parts = and_parts (is_good_attribute attribute) (list_all is_good_attribute attributes) good in
    let words = and_parts (is_name_text attribute.word && is_bare_name attribute.word)
    (is_name_text attribute.value) parts.0 in
    let bare = (and_parts (is_name_text attribute.word) (is_bare_name attribute.word) words.0).1 in (
      record {
        bare = word_bare (word_spot spot) attribute.word bare;
        equals = equals_is (equals_spot spot attribute);
        value = value_is (value_spot spot attribute) (list_all is_word_byte attribute.value) attribute.value;
      },
      attributes_are (next_spot spot attribute) attributes parts.1,
    )

attributes_said : (spot : Spot) (attributes : List Attribute)
    → map unplaced_attribute (map attribute_in (attributes_from spot attributes)) ≡ map attributed attributes
attributes_said spot [] = refl
attributes_said spot (attribute ∷ attributes) = ap (λ l. attributed attribute ∷ l)
    (attributes_said (next_spot spot attribute) attributes)

-- ---- statements

-- lexemes spell a statement that says what is written
record Says (lexemes : List Lexeme) (statement : WrittenStatement) : Type 0 where
  read : Statement
  spells : Spells read lexemes
  same : unplaced read ≡ said statement

statement_says : (spot : Spot) (statement : WrittenStatement) → IsGood statement
    → Says (lexemes_from spot (statement_pieces statement)) statement
statement_says spot (Top name) good =
    let at = walk (walk spot (codes "toplevel")) (32 ∷ []) in
    let close = walk at (bytes_of (name_piece name)) in
    let word = lexeme_at spot Word (codes "toplevel") in
    let lexeme = name_lexeme at name in
    let top : RawTop = record { word = word.place; name = placed lexeme } in
    let spells : SpellsTop top (lexemes_from spot (statement_pieces (Top name))) = record {
      word = word;
      name = lexeme;
      close = lexeme_at close Semicolon (59 ∷ []);
      spelled = ap (λ l. word ∷ l) (name_first at name end_pieces);
      is_top = top_word_is spot;
      named = name_named at name good;
      closed = semicolon_is close;
      is = refl;
    } in
    record { read = raw.Top top; spells = spells; same = ap (λ n. said_top n) (name_said at name) }
  where
    said_top : Placed → Statement
    said_top name = raw.Top (record { word = record { line = 0; column = 0 }; name = name })
statement_says spot (Gate name kind inputs) good =
    let lexeme = name_lexeme spot name in
    let behind = walk spot (bytes_of (name_piece name)) in
    let at = walk behind (32 ∷ []) in
    let word = lexeme_at at Word (gate_word kind) in
    let from = walk at (gate_word kind) in
    let close = walk from (spelled (flat_map input_pieces inputs)) in
    let gate : RawGate = record {
      name = placed lexeme;
      word = word.place;
      kind = kind;
      inputs = map placed (inputs_from from inputs);
    } in
    let spells : SpellsGate gate (lexemes_from spot (statement_pieces (Gate name kind inputs))) = record {
      name = lexeme;
      word = word;
      inputs = inputs_from from inputs;
      close = lexeme_at close Semicolon (59 ∷ []);
      spelled =
          name_first spot name (Blank 32 ∷ AWord (gate_word kind) ∷ (flat_map input_pieces inputs ++ end_pieces))
          ∙ ap (λ l. lexeme ∷ word ∷ l) (lexemes-append from (flat_map input_pieces inputs) end_pieces);
      defined = name_defined spot name good.0;
      said = word_said at kind good.1;
      named = inputs_named from inputs good.2;
      closed = semicolon_is close;
      is = refl;
    } in
    record {
      read = raw.Gate gate;
      spells = spells;
      same = ap
          (λ n. said_gate n (map unplaced_name (map placed (inputs_from from inputs)))) (name_said spot name)
          ∙ ap (said_gate (named name)) (inputs_said from inputs);
    }
  where
    said_gate : Placed → List Placed → Statement
    said_gate name inputs = raw.Gate
        (record { name = name; word = record { line = 0; column = 0 }; kind = kind; inputs = inputs })
statement_says spot (Basic name attributes) good =
    let lexeme = name_lexeme spot name in
    let from = walk spot (bytes_of (name_piece name)) in
    let close = walk from (spelled (flat_map attribute_pieces attributes)) in
    let basic : RawBasic = record {
      name = placed lexeme;
      attributes = map attribute_in (attributes_from from attributes);
    } in
    let spells : SpellsBasic basic (lexemes_from spot (statement_pieces (Basic name attributes))) = record {
      name = lexeme;
      attributes = attributes_from from attributes;
      close = lexeme_at close Semicolon (59 ∷ []);
      spelled =
          name_first spot name (flat_map attribute_pieces attributes ++ end_pieces)
          ∙ ap (λ l. lexeme ∷ l) (lexemes-append from (flat_map attribute_pieces attributes) end_pieces)
          ∙ ap (λ l. lexeme ∷ (l ++ lexeme_at close Semicolon (59 ∷ []) ∷ [])) (attributes_spelled from attributes);
      defined = name_defined spot name good.0;
      each = attributes_are from attributes good.1;
      closed = semicolon_is close;
      is = refl;
    } in
    record {
      read = raw.Basic basic;
      spells = spells;
      same =
          ap (λ n. said_basic n (map unplaced_attribute (map attribute_in (attributes_from from attributes))))
          (name_said spot name) ∙ ap (said_basic (named name)) (attributes_said from attributes);
    }
  where
    said_basic : Placed → List RawAttribute → Statement
    said_basic name attributes = raw.Basic (record { name = name; attributes = attributes })

-- lexemes spell statements that say what is written
pub record SayAll (lexemes : List Lexeme) (statements : List WrittenStatement) : Type 0 where
  pub read : List Statement
  pub spells : SpellsAll read lexemes
  pub same : SaysAll read statements

pub all_say : (spot : Spot) (statements : List WrittenStatement) → AreGood statements
    → SayAll (lexemes_from spot (all_pieces statements)) statements
all_say spot [] good = record { read = []; spells = refl; same = refl }
all_say spot (statement ∷ statements) good =
    let then_spot = walk spot (spelled (statement_pieces statement)) in
    let first = statement_says spot statement (All-head IsGood statement statements good) in
    let more = all_say then_spot statements (All-tail IsGood statement statements good) in
    record {
      read = first.read ∷ more.read;
      spells = (
        lexemes_from spot (statement_pieces statement),
        lexemes_from then_spot (all_pieces statements),
        lexemes-append spot (statement_pieces statement) (all_pieces statements),
        first.spells,
        more.spells,
      );
      same = ap (λ s. s ∷ map unplaced more.read) first.same ∙ ap (λ l. said statement ∷ l) more.same;
    }
