-- Written statements are a sequence of pieces.
use Rattle.std.proofs.Common.{◌≡◌, ℕ, Bool, true, false, List, [], ◌∷◌, ◌++◌, length, refl, sym, ap, ◌∙◌, subst, arith}
use Rattle.std.proofs.Common.{append_assoc}
use Rattle.std.specs.Prelude.{◌&&◌, not, codes, nat_le, if◌then◌else◌}
use Rattle.std.specs.{List.list_all, List.flat_map, Str.str_eq_ignore_ascii_case}
use Rattle.std.proofs.lemmas.Bool.{and_from, and_parts, leb-true}
use Rattle.std.proofs.{lemmas.List.append-nil, lemmas.List.Concat.flat_map-append, lemmas.List.Elements.All-head}
use Rattle.std.proofs.{lemmas.List.Elements.All-tail}
use Rattle.fault_words.specs.declared.attribute.Attribute.{Attribute}
use Rattle.fault_words.specs.Name.{is_bare_byte, is_bare_name, is_bare_start, is_name, is_name_byte}
use Rattle.galileo_lexer.specs.Bytes.{begins_with, is_blank, is_quotable, is_word_byte}
use Rattle.galileo_lexer.specs.Pieces.{Piece, Blank, AWord, AQuoted, AnEquals, ASemicolon, ArePieces, IsNameText}
use Rattle.galileo_lexer.specs.Pieces.{IsPiece, bytes_of}
use Rattle.deck_reading.specs.Written.{AreGood, Bare, InQuotes, IsGood, Top, Gate, Basic, WrittenName, WrittenStatement}
use Rattle.deck_reading.specs.Written.{attribute_text, input_text, is_good_attribute, is_good_definition}
use Rattle.text_pieces.specs.GateWords.{gate_word}
use Rattle.deck_reading.specs.Written.{is_good_name, name_text, quoted, statement_text, value_text, written}
use Rattle.deck_reading.proofs.GateWords.{gate_word_text}

-- ---- the pieces

abbrev pub name_piece : WrittenName → Piece
name_piece (Bare name) = AWord name
name_piece (InQuotes name) = AQuoted name

abbrev pub input_pieces : WrittenName → List Piece
input_pieces name = Blank 32 ∷ name_piece name ∷ []

abbrev pub value_piece : Bool → List ℕ → Piece
value_piece true value = AWord value
value_piece false value = AQuoted value

abbrev pub attribute_pieces : Attribute → List Piece
attribute_pieces attribute =
    Blank 32 ∷ AWord attribute.word ∷ AnEquals ∷ value_piece
    (list_all is_word_byte attribute.value) attribute.value ∷ []

-- a semicolon and a line feed
abbrev pub end_pieces : List Piece
end_pieces = ASemicolon ∷ Blank 10 ∷ []

abbrev pub statement_pieces : WrittenStatement → List Piece
statement_pieces (Top name) = AWord (codes "toplevel") ∷ Blank 32 ∷ name_piece name ∷ end_pieces
statement_pieces (Gate name kind inputs) =
    name_piece name ∷ Blank 32 ∷ AWord (gate_word kind) ∷ (flat_map input_pieces inputs ++ end_pieces)
statement_pieces (Basic name attributes) = name_piece name ∷ (flat_map attribute_pieces attributes ++ end_pieces)

abbrev pub all_pieces : List WrittenStatement → List Piece
all_pieces statements = flat_map statement_pieces statements

-- the bytes of pieces
abbrev pub spelled : List Piece → List ℕ
spelled pieces = flat_map bytes_of pieces

-- ---- their bytes are the text

name_spelled : (name : WrittenName) → bytes_of (name_piece name) ≡ name_text name
name_spelled (Bare name) = refl
name_spelled (InQuotes name) = refl

value_spelled : (b : Bool) (value : List ℕ) → bytes_of (value_piece b value) ≡ (if b then value else quoted value)
value_spelled true value = refl
value_spelled false value = refl

-- each text is that of its pieces, and so are all
spelled_each : {X : Type 0} (pieces : X → List Piece) (text : X → List ℕ) → ((x : X) → spelled (pieces x) ≡ text x)
    → (xs : List X) → spelled (flat_map pieces xs) ≡ flat_map text xs
spelled_each pieces text is [] = refl
spelled_each pieces text is (x ∷ xs) =
    flat_map-append bytes_of (pieces x) (flat_map pieces xs)
    ∙ ap (λ t. t ++ spelled (flat_map pieces xs)) (is x)
    ∙ ap (λ t. text x ++ t) (spelled_each pieces text is xs)

input_spelled : (name : WrittenName) → spelled (input_pieces name) ≡ input_text name
input_spelled name = ap (λ t. 32 ∷ t) (append-nil (bytes_of (name_piece name)) ∙ name_spelled name)

attribute_spelled : (attribute : Attribute) → spelled (attribute_pieces attribute) ≡ attribute_text attribute
attribute_spelled attribute =
    let value = list_all is_word_byte attribute.value in
    ap (λ t. 32 ∷ (attribute.word ++ 61 ∷ t)) (append-nil (bytes_of (value_piece value attribute.value))
    ∙ value_spelled value attribute.value)
    ∙ ap (λ t. 32 ∷ t) (sym (append_assoc attribute.word (61 ∷ []) (value_text attribute.value)))

behind_spelled : (pieces : List Piece) {text : List ℕ} → spelled pieces ≡ text → spelled (pieces ++ end_pieces) ≡ text
    ++ codes ";\n"
behind_spelled pieces is = flat_map-append bytes_of pieces end_pieces ∙ ap (λ t. t ++ codes ";\n") is

pub statement_spelled : (statement : WrittenStatement) → spelled (statement_pieces statement) ≡ statement_text statement
statement_spelled (Top name) = ap (λ t. codes "toplevel " ++ (t ++ codes ";\n")) (name_spelled name)
statement_spelled (Gate name kind inputs) =
    ap (λ t. bytes_of (name_piece name) ++ (32 ∷ (gate_word kind ++ t))) (behind_spelled (flat_map input_pieces inputs)
    (spelled_each input_pieces input_text input_spelled inputs))
    ∙ ap (λ t. t ++ (32 ∷ (gate_word kind ++ (flat_map input_text inputs ++ codes ";\n")))) (name_spelled name)
statement_spelled (Basic name attributes) =
    ap (λ t. bytes_of (name_piece name) ++ t) (behind_spelled (flat_map attribute_pieces attributes)
    (spelled_each attribute_pieces attribute_text attribute_spelled attributes))
    ∙ ap (λ t. t ++ (flat_map attribute_text attributes ++ codes ";\n")) (name_spelled name)

pub all_spelled : (statements : List WrittenStatement) → spelled (all_pieces statements) ≡ written statements
all_spelled statements = spelled_each statement_pieces statement_text statement_spelled statements

-- ---- each is a piece in front of what follows it

list_all-wider : (narrow wide : ℕ → Bool) → ((byte : ℕ) → narrow byte ≡ true → wide byte ≡ true) →
    (bytes : List ℕ) → list_all narrow bytes ≡ true → list_all wide bytes ≡ true
list_all-wider narrow wide widens [] each = refl
list_all-wider narrow wide widens (byte ∷ bytes) each =
    let parts = and_parts (narrow byte) (list_all narrow bytes) each in
    and_from (wide byte) (list_all wide bytes) (widens byte parts.0) (list_all-wider narrow wide widens bytes parts.1)

bare_in_word : (byte : ℕ) → is_bare_byte byte ≡ true → is_word_byte byte ≡ true
unfolding is_word_byte
bare_in_word byte is = grind arith

start_in_word : (byte : ℕ) → is_bare_start byte ≡ true → is_word_byte byte ≡ true
unfolding is_word_byte
start_in_word byte is = grind arith

quotable_byte : (byte : ℕ) → is_name_byte byte ≡ true → is_quotable byte ≡ true
unfolding is_quotable
quotable_byte byte is = is

bare_bytes : (name : List ℕ) → is_bare_name name ≡ true → list_all is_word_byte name ≡ true
bare_bytes [] is = absurd (cc)
bare_bytes (first ∷ rest) is =
    let parts = and_parts (is_bare_start first) (list_all is_bare_byte rest) is in
    and_from (is_word_byte first) (list_all is_word_byte rest) (start_in_word first parts.0)
    (list_all-wider is_bare_byte is_word_byte bare_in_word rest parts.1)

-- a name's text has the size of one
name_sized : {allowed : ℕ → Bool} {name : List ℕ} → is_name name ≡ true → list_all allowed name ≡ true
    → IsNameText allowed name
name_sized {name} is each =
    let parts = and_parts (nat_le 1 (length name) && nat_le (length name) 255) (list_all is_name_byte name) is in
    let sizes = and_parts (nat_le 1 (length name)) (nat_le (length name) 255) parts.0 in
    record { some = leb-true 1 (length name) sizes.0; few = leb-true (length name) 255 sizes.1; each = each }

pub bare_text : (name : List ℕ) → is_name name ≡ true → is_bare_name name ≡ true → IsNameText is_word_byte name
bare_text name is bare = name_sized is (bare_bytes name bare)

pub quoted_text : {name : List ℕ} → is_name name ≡ true → IsNameText is_quotable name
quoted_text {name} is =
    name_sized is (list_all-wider is_name_byte is_quotable quotable_byte name
    (and_parts (nat_le 1 (length name) && nat_le (length name) 255) (list_all is_name_byte name) is).1)

-- no byte of a word follows
abbrev EndsWord : List ℕ → Type 0
EndsWord rest = begins_with is_word_byte rest ≡ false

blank_ends : (rest : List ℕ) → EndsWord (32 ∷ rest)
unfolding is_word_byte
blank_ends rest = refl

equals_ends : (rest : List ℕ) → EndsWord (61 ∷ rest)
unfolding is_word_byte
equals_ends rest = refl

semicolon_ends : (rest : List ℕ) → EndsWord (59 ∷ rest)
unfolding is_word_byte
semicolon_ends rest = refl

blank_is : is_blank 32 ≡ true
unfolding is_blank
blank_is = refl

feed_is : is_blank 10 ≡ true
unfolding is_blank
feed_is = refl

top_word_text : IsNameText is_word_byte (codes "toplevel")
unfolding is_word_byte
top_word_text = record { some = omega arith; few = omega arith; each = refl }

-- pieces behind pieces
are_append : (front back : List Piece) (rest : List ℕ) → ArePieces front (spelled back ++ rest) → ArePieces back rest
    → ArePieces (front ++ back) rest
are_append [] back rest first second = second
are_append (piece ∷ front) back rest first second =
    let text : spelled front ++ (spelled back ++ rest) ≡ spelled (front ++ back) ++ rest =
    sym (append_assoc (spelled front) (spelled back) rest) ∙ ap (λ t. t ++ rest)
    (sym (flat_map-append bytes_of front back)) in
    (subst (IsPiece piece) text first.0, are_append front back rest first.1 second)

-- pieces one after the other, each of which ends a word in front of it
module _ {X : Type 0} (pieces : X → List Piece) (good : X → Bool)
    (are : (x : X) (rest : List ℕ) → good x ≡ true → EndsWord rest → ArePieces (pieces x) rest)
    (ends : (x : X) (rest : List ℕ) → EndsWord (spelled (pieces x) ++ rest)) where
  each_ends : (xs : List X) (rest : List ℕ) → EndsWord rest → EndsWord (spelled (flat_map pieces xs) ++ rest)
  each_ends [] rest over = over
  each_ends (x ∷ xs) rest over =
      subst EndsWord
      (sym (append_assoc (spelled (pieces x)) (spelled (flat_map pieces xs)) rest)
      ∙ ap (λ t. t ++ rest) (sym (flat_map-append bytes_of (pieces x) (flat_map pieces xs))))
      (ends x (spelled (flat_map pieces xs) ++ rest))

  are_each : (xs : List X) (rest : List ℕ) → list_all good xs ≡ true → EndsWord rest
      → ArePieces (flat_map pieces xs) rest
  are_each [] rest each over = tt
  are_each (x ∷ xs) rest each over =
      let parts = and_parts (good x) (list_all good xs) each in
      are_append (pieces x) (flat_map pieces xs) rest
      (are x (spelled (flat_map pieces xs) ++ rest) parts.0 (each_ends xs rest over))
      (are_each xs rest parts.1 over)

name_is : (name : WrittenName) (rest : List ℕ) → is_good_name name ≡ true → EndsWord rest
    → IsPiece (name_piece name) rest
name_is (Bare name) rest good over =
    let parts = and_parts (is_name name) (is_bare_name name) good in
    (bare_text name parts.0 parts.1, over)
name_is (InQuotes name) rest good over = quoted_text good

-- a name that defines is a good name
pub defined_good : (name : WrittenName) → is_good_definition name ≡ true → is_good_name name ≡ true
defined_good (Bare name) good =
    (and_parts (is_name name && is_bare_name name) (not (str_eq_ignore_ascii_case name (codes "toplevel"))) good).0
defined_good (InQuotes name) good = good

inputs_are : (name : WrittenName) (rest : List ℕ) → is_good_name name ≡ true → EndsWord rest
    → ArePieces (input_pieces name) rest
inputs_are name rest good over = (blank_is, (name_is name rest good over, tt))

inputs_end : (name : WrittenName) (rest : List ℕ) → EndsWord (spelled (input_pieces name) ++ rest)
inputs_end name rest = blank_ends (spelled (name_piece name ∷ []) ++ rest)

value_is : (b : Bool) (value rest : List ℕ) → list_all is_word_byte value ≡ b → is_name value ≡ true → EndsWord rest
    → IsPiece (value_piece b value) rest
value_is true value rest each is over = (name_sized {allowed = is_word_byte} {name = value} is each, over)
value_is false value rest each is over = quoted_text is

attributes_are : (attribute : Attribute) (rest : List ℕ) → is_good_attribute attribute ≡ true → EndsWord rest
    → ArePieces (attribute_pieces attribute) rest
attributes_are attribute rest good over =
    let parts = and_parts (is_name attribute.word && is_bare_name attribute.word) (is_name attribute.value) good in
    let words = and_parts (is_name attribute.word) (is_bare_name attribute.word) parts.0 in
    let b = list_all is_word_byte attribute.value in (
      blank_is,
      (
        (bare_text attribute.word words.0 words.1, equals_ends (spelled (value_piece b attribute.value ∷ []) ++ rest)),
        (
          tt,
          (value_is b attribute.value rest refl parts.1 over, tt),
        ),
      ),
    )

attributes_end : (attribute : Attribute) (rest : List ℕ) → EndsWord (spelled (attribute_pieces attribute) ++ rest)
attributes_end attribute rest =
    blank_ends (spelled (AWord attribute.word ∷ AnEquals ∷ value_piece
    (list_all is_word_byte attribute.value) attribute.value ∷ []) ++ rest)

end_is : (rest : List ℕ) → ArePieces end_pieces rest
end_is rest = (tt, (feed_is, tt))

statement_is : (statement : WrittenStatement) (rest : List ℕ) → IsGood statement
    → ArePieces (statement_pieces statement) rest
statement_is (Top name) rest good = (
  (top_word_text, blank_ends (spelled (name_piece name ∷ end_pieces) ++ rest)),
  (blank_is, (name_is name (59 ∷ 10 ∷ rest) good (semicolon_ends (10 ∷ rest)), end_is rest)),
)
statement_is (Gate name kind inputs) rest good =
    let pieces = flat_map input_pieces inputs in
    let over = semicolon_ends (10 ∷ rest) in
    let named = name_is name (spelled (Blank 32 ∷ AWord (gate_word kind) ∷ (pieces ++ end_pieces)) ++ rest)
    (defined_good name good.0)
    (blank_ends (spelled (AWord (gate_word kind) ∷ (pieces ++ end_pieces)) ++ rest)) in
    let text : spelled pieces ++ (59 ∷ 10 ∷ rest) ≡ spelled (pieces ++ end_pieces) ++ rest =
    sym (append_assoc (spelled pieces) (codes ";\n") rest) ∙ ap (λ t. t ++ rest)
    (sym (flat_map-append bytes_of pieces end_pieces)) in
    let ends = subst EndsWord text
    (each_ends input_pieces is_good_name inputs_are inputs_end inputs (59 ∷ 10 ∷ rest) over) in (
      named,
      (
        blank_is,
        (
          (gate_word_text kind good.1, ends),
          are_append pieces end_pieces rest
              (are_each input_pieces is_good_name inputs_are inputs_end inputs (59 ∷ 10 ∷ rest) good.2 over)
              (end_is rest),
        ),
      ),
    )
statement_is (Basic name attributes) rest good =
    let pieces = flat_map attribute_pieces attributes in
    let over = semicolon_ends (10 ∷ rest) in
    let text : spelled pieces ++ (59 ∷ 10 ∷ rest) ≡ spelled (pieces ++ end_pieces) ++ rest =
    sym (append_assoc (spelled pieces) (codes ";\n") rest) ∙ ap (λ t. t ++ rest)
    (sym (flat_map-append bytes_of pieces end_pieces)) in
    let named = name_is name (spelled (pieces ++ end_pieces) ++ rest) (defined_good name good.0)
    (subst EndsWord text (each_ends attribute_pieces is_good_attribute attributes_are attributes_end attributes
    (59 ∷ 10 ∷ rest) over)) in (
      named,
      are_append pieces end_pieces rest
          (are_each attribute_pieces is_good_attribute attributes_are attributes_end attributes
          (59 ∷ 10 ∷ rest) good.1 over) (end_is rest),
    )

pub all_are : (statements : List WrittenStatement) (rest : List ℕ) → AreGood statements
    → ArePieces (all_pieces statements) rest
all_are [] rest good = tt
all_are (statement ∷ statements) rest good =
    are_append (statement_pieces statement) (all_pieces statements) rest
    (statement_is statement (spelled (all_pieces statements) ++ rest) (All-head IsGood statement statements good))
    (all_are statements rest (All-tail IsGood statement statements good))
