-- No line of written statements divides a deck.
use Rattle.std.proofs.Common.{◌≡◌, ℕ, ◌+◌, Bool, true, false, cond, List, [], ◌∷◌, ◌++◌, length, drop, take, map, refl}
use Rattle.std.proofs.Common.{sym, ap, ◌∙◌, arith, append_assoc, length-append}
use Rattle.std.specs.Prelude.{◌&&◌, codes, nat_eq, nat_le, All, Option, Some, None, Result}
use Rattle.std.specs.List.{flat_map, list_all, list_any}
use Rattle.std.specs.Cmp.Lexicographic.{pointwise}
use Rattle.std.proofs.lemmas.Bool.{and_from, and_left, and_parts, or_from}
use Rattle.std.proofs.lemmas.List.{append-nil, length-map, take_at}
use Rattle.std.proofs.lemmas.List.Elements.{All-cons, All-head, All-nil, All-tail}
use Rattle.std.proofs.{lemmas.List.Folds.list_all-append, lemmas.List.Folds.list_any-append}
use Rattle.std.proofs.{lemmas.List.Prefix.front_rest, lemmas.List.Splits.slice_split_at}
use Rattle.fault_words.specs.declared.attribute.Attribute.{Attribute}
use Rattle.fault_words.specs.Name.{is_bare_byte, is_bare_name, is_bare_start, is_name, is_name_byte}
use Rattle.galileo_lexer.specs.Bytes.{is_word_byte}
use Rattle.crew_script.specs.{Crews.crews_of, declared.deck.CrewsAt.CrewsAt, declared.deck.Split.Split}
use Rattle.crew_script.specs.{declared.dockets.Crew.Crew, declared.fault.CrewFault.CrewFault}
use Rattle.crew_script.specs.Deck.{is_crews, is_feed, lines_of, split_of}
use Rattle.crew_script.specs.Divides.{Divides, IsDividedAt, size_of}
use Rattle.deck_reading.specs.Deck.{crew_part, crews_behind, tree_part}
use Rattle.deck_reading.specs.Written.{AreGood, Bare, InQuotes, IsGood, Top, Gate, Basic, WrittenName, WrittenStatement}
use Rattle.deck_reading.specs.Written.{attribute_text, attribute_word, input_text, is_good_attribute}
use Rattle.text_pieces.specs.GateWords.{gate_word}
use Rattle.deck_reading.specs.Written.{is_good_name, name_text, quoted, statement_text, value_text, written}
use Rattle.deck_reading.proofs.{GateWords.gate_word_text, Pieces.defined_good}

-- ---- lines

-- a statement without its line feed
abbrev line_text : WrittenStatement → List ℕ
line_text (Top name) = codes "toplevel " ++ (name_text name ++ codes ";")
line_text (Gate name kind inputs) = name_text name
    ++ (codes " " ++ (gate_word kind ++ (flat_map input_text inputs ++ codes ";")))
line_text (Basic name attributes) = name_text name ++ (flat_map attribute_text attributes ++ codes ";")

abbrev line_texts : List WrittenStatement → List (List ℕ)
line_texts statements = map line_text statements

three : (a b c d : List ℕ) → a ++ (b ++ (c ++ d)) ≡ (a ++ (b ++ c)) ++ d
three a b c d = ap (λ t. a ++ t) (sym (append_assoc b c d)) ∙ sym (append_assoc a (b ++ c) d)

ends_in_feed : (statement : WrittenStatement) → statement_text statement ≡ line_text statement ++ 10 ∷ []
ends_in_feed (Top name) = three (codes "toplevel ") (name_text name) (codes ";") (10 ∷ [])
ends_in_feed (Gate name kind inputs) =
    ap (λ t. name_text name ++ (codes " " ++ t))
    (three (gate_word kind) (flat_map input_text inputs) (codes ";") (10 ∷ []))
    ∙ three (name_text name) (codes " ") (gate_word kind ++ (flat_map input_text inputs ++ codes ";")) (10 ∷ [])
ends_in_feed (Basic name attributes) = three (name_text name) (flat_map attribute_text attributes) (codes ";") (10 ∷ [])

-- ---- their bytes

-- no byte below the blank
abbrev is_plain : ℕ → Bool
is_plain byte = nat_le 32 byte

abbrev ArePlain : List ℕ → Type 0
ArePlain bytes = list_all is_plain bytes ≡ true

joined : (front back : List ℕ) → ArePlain front → ArePlain back → ArePlain (front ++ back)
joined front back first second = list_all-append is_plain front back
    ∙ and_from (list_all is_plain front) (list_all is_plain back) first second

wider : (test : ℕ → Bool) → ((byte : ℕ) → test byte ≡ true → is_plain byte ≡ true) → (bytes : List ℕ)
    → list_all test bytes ≡ true → ArePlain bytes
wider test widens [] each = refl
wider test widens (byte ∷ bytes) each =
    let parts = and_parts (test byte) (list_all test bytes) each in
    and_from (is_plain byte) (list_all is_plain bytes) (widens byte parts.0) (wider test widens bytes parts.1)

name_byte_plain : (byte : ℕ) → is_name_byte byte ≡ true → is_plain byte ≡ true
name_byte_plain byte is = grind arith

word_byte_plain : (byte : ℕ) → is_word_byte byte ≡ true → is_plain byte ≡ true
unfolding is_word_byte
word_byte_plain byte is = grind arith

name_plain : (name : List ℕ) → is_name name ≡ true → ArePlain name
name_plain name is =
    wider is_name_byte name_byte_plain name
    (and_parts (nat_le 1 (length name) && nat_le (length name) 255) (list_all is_name_byte name) is).1

quoted_plain : (name : List ℕ) → is_name name ≡ true → ArePlain (quoted name)
quoted_plain name is = joined name (34 ∷ []) (name_plain name is) refl

text_plain : (name : WrittenName) → is_good_name name ≡ true → ArePlain (name_text name)
text_plain (Bare name) good = name_plain name (and_parts (is_name name) (is_bare_name name) good).0
text_plain (InQuotes name) good = quoted_plain name good

inputs_plain : (inputs : List WrittenName) → list_all is_good_name inputs ≡ true → ArePlain (flat_map input_text inputs)
inputs_plain [] good = refl
inputs_plain (name ∷ inputs) good =
    let parts = and_parts (is_good_name name) (list_all is_good_name inputs) good in
    joined (name_text name) (flat_map input_text inputs) (text_plain name parts.0) (inputs_plain inputs parts.1)

value_plain : (b : Bool) (value : List ℕ) → is_name value ≡ true → ArePlain (cond b value (quoted value))
value_plain true value is = name_plain value is
value_plain false value is = quoted_plain value is

attribute_plain : (attribute : Attribute) → is_good_attribute attribute ≡ true → ArePlain (attribute_text attribute)
attribute_plain attribute good =
    let parts = and_parts (is_name attribute.word && is_bare_name attribute.word) (is_name attribute.value) good in
    let word = (and_parts (is_name attribute.word) (is_bare_name attribute.word) parts.0).0 in
    joined (attribute_word attribute.word) (value_text attribute.value)
    (joined attribute.word (61 ∷ []) (name_plain attribute.word word) refl)
    (value_plain (list_all is_word_byte attribute.value) attribute.value parts.1)

attributes_plain : (attributes : List Attribute) → list_all is_good_attribute attributes ≡ true
    → ArePlain (flat_map attribute_text attributes)
attributes_plain [] good = refl
attributes_plain (attribute ∷ attributes) good =
    let parts = and_parts (is_good_attribute attribute) (list_all is_good_attribute attributes) good in
    joined (attribute_text attribute) (flat_map attribute_text attributes) (attribute_plain attribute parts.0)
    (attributes_plain attributes parts.1)

line_plain : (statement : WrittenStatement) → IsGood statement → ArePlain (line_text statement)
line_plain (Top name) good = joined (name_text name) (codes ";") (text_plain name good) refl
line_plain (Gate name kind inputs) good =
    joined (name_text name) (32 ∷ (gate_word kind ++ (flat_map input_text inputs ++ codes ";")))
    (text_plain name (defined_good name good.0))
    (joined (gate_word kind) (flat_map input_text inputs ++ codes ";")
    (wider is_word_byte word_byte_plain (gate_word kind) (gate_word_text kind good.1).each)
    (joined (flat_map input_text inputs) (codes ";") (inputs_plain inputs good.2) refl))
line_plain (Basic name attributes) good =
    joined (name_text name) (flat_map attribute_text attributes ++ codes ";")
    (text_plain name (defined_good name good.0))
    (joined (flat_map attribute_text attributes) (codes ";") (attributes_plain attributes good.1) refl)

plain_no_feed : (byte : ℕ) → is_plain byte ≡ true → is_feed byte ≡ false
plain_no_feed byte is = grind arith

no_feeds : (bytes : List ℕ) → ArePlain bytes → All (λ byte. is_feed byte ≡ false) bytes
no_feeds [] plain = All-nil (λ (byte : ℕ). is_feed byte ≡ false)
no_feeds (byte ∷ bytes) plain =
    let parts = and_parts (is_plain byte) (list_all is_plain bytes) plain in
    All-cons (λ (b : ℕ). is_feed b ≡ false) byte bytes (plain_no_feed byte parts.0) (no_feeds bytes parts.1)

-- ---- none of them divides

other_byte : (byte : ℕ) (line : List ℕ) → nat_eq byte 64 ≡ false → is_crews (byte ∷ line) ≡ false
other_byte byte line other =
    or_from (pointwise nat_eq (byte ∷ line) (codes "@crews"))
    (pointwise nat_eq (byte ∷ line) (codes "@crews" ++ 13 ∷ []))
    (and_left (nat_eq byte 64) (pointwise nat_eq line (codes "crews")) other)
    (and_left (nat_eq byte 64) (pointwise nat_eq line (codes "crews" ++ 13 ∷ [])) other)

start_is : (byte : ℕ) → is_bare_start byte ≡ true → nat_eq byte 64 ≡ false
start_is byte is = grind arith

name_begins : (name : WrittenName) (rest : List ℕ) → is_good_name name ≡ true
    → is_crews (name_text name ++ rest) ≡ false
name_begins (Bare []) rest good = absurd (cc)
name_begins (Bare (byte ∷ name)) rest good =
    let bare = (and_parts (is_name (byte ∷ name)) (is_bare_name (byte ∷ name)) good).1 in
    other_byte byte (name ++ rest) (start_is byte (and_parts (is_bare_start byte) (list_all is_bare_byte name) bare).0)
name_begins (InQuotes name) rest good = other_byte 34 ((name ++ 34 ∷ []) ++ rest) refl

no_divider : (statement : WrittenStatement) → IsGood statement → is_crews (line_text statement) ≡ false
no_divider (Top name) good = refl
no_divider (Gate name kind inputs) good =
    name_begins name (32 ∷ (gate_word kind ++ (flat_map input_text inputs ++ codes ";"))) (defined_good name good.0)
no_divider (Basic name attributes) good = name_begins name (flat_map attribute_text attributes ++ codes ";")
    (defined_good name good.0)

none_divides : (statements : List WrittenStatement) → AreGood statements
    → list_any is_crews (line_texts statements) ≡ false
none_divides [] good = refl
none_divides (statement ∷ statements) good =
    or_from (is_crews (line_text statement)) (list_any is_crews (line_texts statements))
    (no_divider statement (All-head IsGood statement statements good))
    (none_divides statements (All-tail IsGood statement statements good))

-- the lines of written statements, and of what stands behind them
lines_are : (statements : List WrittenStatement) (rest : List ℕ) → AreGood statements
    → lines_of (written statements ++ rest) ≡ line_texts statements ++ lines_of rest
lines_are [] rest good = refl
lines_are (statement ∷ statements) rest good =
    let line = line_text statement in
    let behind = written statements ++ rest in
    let text : written (statement ∷ statements) ++ rest ≡ line ++ 10 ∷ behind =
    append_assoc (statement_text statement) (written statements) rest
    ∙ ap (λ t. t ++ behind) (ends_in_feed statement)
    ∙ append_assoc line (10 ∷ []) behind in
    ap lines_of text
    ∙ slice_split_at is_feed line 10 behind
    (no_feeds line (line_plain statement (All-head IsGood statement statements good))) refl
    ∙ ap (λ l. line ∷ l) (lines_are statements rest (All-tail IsGood statement statements good))

sizes_are : (statements : List WrittenStatement) → size_of (line_texts statements) ≡ length (written statements)
sizes_are [] = refl
sizes_are (statement ∷ statements) =
    omega (
      arith,
      sizes_are statements,
      ap length (ends_in_feed statement),
      length-append (line_text statement) (10 ∷ []),
      length-append (statement_text statement) (written statements),
    )

-- ---- the parts of a deck

module _ (once : (bytes : List ℕ) (split : Split) → Divides bytes split → split_of bytes ≡ split)
    (statements : List WrittenStatement) (good : AreGood statements) where
  none_in_all : list_any is_crews (lines_of (written statements)) ≡ false
  none_in_all =
      ap (λ t. list_any is_crews (lines_of t)) (sym (append-nil (written statements)))
      ∙ ap (list_any is_crews) (lines_are statements [] good)
      ∙ list_any-append is_crews (line_texts statements) ([] ∷ [])
      ∙ or_from (list_any is_crews (line_texts statements)) false (none_divides statements good) refl

  pub whole_part : tree_part (written statements) ≡ written statements
  whole_part =
      let bytes = written statements in
      let all : Split = record { tree = length bytes; crews = None } in
      ap (λ (s : Split). take s.tree bytes) (once bytes all (refl, none_in_all))
      ∙ ap (take (length bytes)) (sym (append-nil bytes))
      ∙ take_at bytes [] (length bytes) refl

  module _ (lines : List ℕ) where
    abbrev deck : List ℕ
    deck = written statements ++ (codes "@crews\n" ++ lines)

    abbrev crews_at : CrewsAt
    crews_at = record { start = length (written statements) + 7; line = length statements + 2 }

    divided : IsDividedAt deck (length (written statements)) crews_at
    divided = record {
      before = line_texts statements;
      line = codes "@crews";
      behind = lines_of lines;
      lines = lines_are statements (codes "@crews\n" ++ lines) good;
      first = none_divides statements good;
      divides = refl;
      place = sym (sizes_are statements);
      start = omega (arith, length-append (written statements) (codes "@crews\n" ++ lines));
      number = ap (λ n. n + 2) (sym (length-map statements line_text));
    }

    is_split : split_of deck ≡ record { tree = length (written statements); crews = Some crews_at }
    is_split = once deck (record { tree = length (written statements); crews = Some crews_at }) divided

    pub part_before : tree_part deck ≡ written statements
    part_before =
        ap (λ (s : Split). take s.tree deck) is_split
        ∙ take_at (written statements) (codes "@crews\n" ++ lines) (length (written statements)) refl

    pub part_behind : crew_part deck ≡ Some (crews_of (length statements + 2) lines)
    part_behind =
        let front = written statements ++ codes "@crews\n" in
        let text : deck ≡ front ++ lines = sym (append_assoc (written statements) (codes "@crews\n") lines) in
        let size : length (written statements) + 7 ≡ length front =
        sym (length-append (written statements) (codes "@crews\n")) in
        ap (λ (s : Split). crews_behind deck s.crews) is_split
        ∙ ap (λ l. said_by (crews_of (length statements + 2) l))
        (ap (λ n. drop n deck) size ∙ front_rest deck front lines text)
      where
        said_by : Result (List Crew) CrewFault → Option (Result (List Crew) CrewFault)
        said_by read = Some read
