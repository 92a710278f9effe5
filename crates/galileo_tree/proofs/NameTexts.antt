-- The text of a word and of a quoted token has the form of a name.
use Rattle.std.proofs.Common.{◌≡◌, ℕ, ◌+◌, ◌-◌, ◌<◌, ◌≤◌, ◌⊎◌, inl, inr, Bool, true, List, [], ◌∷◌, ◌++◌, length}
use Rattle.std.proofs.Common.{take, drop, sym, refl, ap, ◌∙◌, arith, append_assoc, le-leb, take-append-drop}
use Rattle.std.proofs.Common.{length-drop, length-append, length-take-le}
use Rattle.std.proofs.lemmas.Bool.{and_parts}
use Rattle.std.proofs.lemmas.List.{take_at, drop-drop, take_rest}
use Rattle.std.specs.Prelude.{slice_range}
use Rattle.std.specs.List.{list_all}
use Rattle.fault_words.specs.Name.{is_name, is_name_byte}
use Rattle.galileo_lexer.specs.{declared.token.TokenKind.TokenKind, Bytes.is_word_byte, Bytes.is_quotable}
use Rattle.galileo_lexer.specs.{Pieces.IsNameText, Spelling.Spells}
use Rattle.galileo_lexer.specs.declared.token.TokenKind.TheVariants.{Word, Quoted, Equals, Semicolon}
use Rattle.galileo_tree.specs.Lexeme.{HasNameText, text_between}

-- bytes that pass a test pass a wider one
list_all-wider : (narrow wide : ℕ → Bool) → ((byte : ℕ) → narrow byte ≡ true → wide byte ≡ true) →
    (bytes : List ℕ) → list_all narrow bytes ≡ true → list_all wide bytes ≡ true
list_all-wider narrow wide widens [] each = refl
list_all-wider narrow wide widens (byte ∷ bytes) each =
    let parts = and_parts (narrow byte) (list_all narrow bytes) each in
    rw (widens byte parts.0) (list_all-wider narrow wide widens bytes parts.1)

word_byte_named : (byte : ℕ) → is_word_byte byte ≡ true → is_name_byte byte ≡ true
unfolding is_word_byte
word_byte_named byte is = grind arith

quotable_named : (byte : ℕ) → is_quotable byte ≡ true → is_name_byte byte ≡ true
unfolding is_quotable
quotable_named byte is = is

name_text : {allowed : ℕ → Bool} → ((byte : ℕ) → allowed byte ≡ true → is_name_byte byte ≡ true) →
    {bytes : List ℕ} → IsNameText allowed bytes → is_name bytes ≡ true
name_text {allowed} widens {bytes} is =
    rw (le-leb _ _ is.some, le-leb _ _ is.few) (list_all-wider allowed is_name_byte widens bytes is.each)

quoted_length : (name : List ℕ) → length (34 ∷ name ++ 34 ∷ []) ≡ length name + 2
quoted_length name = omega (arith, length-append name (34 ∷ []))

-- what stands between the first and the last byte of a slice
between : (text : List ℕ) (start stop : ℕ) (name : List ℕ) → stop ≤ length text → start < stop →
    slice_range text start stop ≡ 34 ∷ name ++ 34 ∷ [] → slice_range text (start + 1) (stop - 1) ≡ name
between text start stop name in_text some is =
    let behind = drop start text in
    let rest = drop (stop - start) behind in
    let whole : behind ≡ 34 ∷ (name ++ 34 ∷ [] ++ rest) =
    sym (take-append-drop (stop - start) behind) ∙ ap (λ t. t ++ rest) is in
    let inner : drop (start + 1) text ≡ name ++ (34 ∷ rest) =
    sym (drop-drop 1 start text) ∙ ap (drop 1) whole ∙ append_assoc name (34 ∷ []) rest in
    let long : length (drop start text) ≡ length text - start = length-drop start text in
    let size : stop - start ≡ length name + 2 =
    sym (length-take-le (stop - start) behind (omega arith)) ∙ ap length is ∙ quoted_length name in
    rw inner (take_at name (34 ∷ rest) (stop - 1 - (start + 1)) (omega arith))

-- a spelled token's text has the form of a name, where it is a word or quoted
pub spelled_name : (text : List ℕ) (kind : TokenKind) (start stop : ℕ) → stop ≤ length text → start < stop →
    Spells kind (slice_range text start stop) → HasNameText kind (text_between kind text start stop)
spelled_name text Word start stop in_text some spells named = name_text word_byte_named spells
spelled_name text Quoted start stop in_text some spells named =
    rw (between text start stop spells.0 in_text some spells.2) (name_text quotable_named spells.1)
spelled_name text Equals start stop in_text some spells named = absurd (cc)
spelled_name text Semicolon start stop in_text some spells named = absurd (cc)

-- ---- the same, where the text is the front of what is left of the whole

-- the rest of the whole goes on for as long as the token
pub rest_reaches : (text : List ℕ) (start stop : ℕ) → stop ≤ length text → start < stop →
    stop - start ≤ length (slice_range text start (length text))
rest_reaches text start stop in_text some =
    omega (arith, ap length (take_rest text start), length-drop start text)

pub quoted_rest : (text : List ℕ) (kind : TokenKind) (start stop : ℕ) → kind ≡ Quoted → stop ≤ length text
    → start < stop →
    Spells kind (slice_range text start stop) → HasNameText kind
    (take (stop - 1 - (start + 1)) (slice_range text (start + 1) (length text)))
quoted_rest text Quoted start stop is in_text some spells =
    rw (take_rest text (start + 1)) (spelled_name text Quoted start stop in_text some spells)
quoted_rest text Word start stop is in_text some spells = absurd cc
quoted_rest text Equals start stop is in_text some spells = absurd cc
quoted_rest text Semicolon start stop is in_text some spells = absurd cc

pub plain_rest : (text : List ℕ) (kind : TokenKind) (start stop : ℕ)
    → (kind ≡ Word) ⊎ ((kind ≡ Equals) ⊎ (kind ≡ Semicolon)) →
    stop ≤ length text → start < stop → Spells kind (slice_range text start stop) →
    HasNameText kind (take (stop - start) (slice_range text start (length text)))
plain_rest text Word start stop is in_text some spells named =
    rw (take_rest text start) (spelled_name text Word start stop in_text some spells named)
plain_rest text Equals start stop is in_text some spells named = absurd cc
plain_rest text Semicolon start stop is in_text some spells named = absurd cc
plain_rest text Quoted start stop (inl is) in_text some spells named = absurd cc
plain_rest text Quoted start stop (inr (inl is)) in_text some spells named = absurd cc
plain_rest text Quoted start stop (inr (inr is)) in_text some spells named = absurd cc
