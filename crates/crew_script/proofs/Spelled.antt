-- The words of a line are those that spell it.
use Rattle.std.proofs.Common.{◌≡◌, ℕ, Bool, true, false, List, [], ◌∷◌, ◌++◌, sym, refl, ap, ◌∙◌, append_assoc}
use Rattle.std.proofs.Common.{append-nil, inl, inr, eqb-true}
use Rattle.std.specs.Prelude.{◌||◌}
use Rattle.std.specs.List.{list_any, list_all}
use Rattle.std.proofs.lemmas.Bool.{cases_Bool, and_parts, not-true, or_parts}
use Rattle.std.proofs.lemmas.List.Folds.{list_any-append}
use Rattle.crew_script.specs.Words.{Word, Mode, Between, InBare, InQuotes, Closed, words, words_of, is_blank, is_quote}
use Rattle.crew_script.specs.Words.{bare, quoted, parts, begins_bare, are_blank, Writes, bare_word, quoted_word}
use Rattle.crew_script.specs.Words.{Spells, no_word, word_on}
use Rattle.crew_script.specs.Lines.{is_bare_kind, is_quoted_kind}
use Rattle.crew_script.proofs.WordLemmas.{blank_skipped, closed_parts}

any_push : (test : ℕ → Bool) (bytes : List ℕ) (byte : ℕ) → list_any test bytes ≡ false → test byte ≡ false
    → list_any test (bytes ++ byte ∷ []) ≡ false
any_push test bytes byte none last =
    rw (list_any-append test bytes (byte ∷ []), none, last) refl

-- ---- what is spelled is read

pub gap_skipped : (gap rest : List ℕ) → are_blank gap ≡ true → words_of (gap ++ rest) ≡ words_of rest
gap_skipped [] rest blank = refl
gap_skipped (byte ∷ gap) rest blank =
    let (here, more) = and_parts (is_blank byte) (are_blank gap) blank in
    blank_skipped byte (gap ++ rest) here ∙ gap_skipped gap rest more

pub no_words : (gap : List ℕ) → are_blank gap ≡ true → words_of gap ≡ []
no_words [] blank = refl
no_words (byte ∷ gap) blank =
    let (here, more) = and_parts (is_blank byte) (are_blank gap) blank in
    blank_skipped byte gap here ∙ no_words gap more

bare_ends : (text rest : List ℕ) → parts rest ≡ true → words (InBare text) rest ≡ bare text ∷ words_of rest
bare_ends text [] ends = refl
bare_ends text (byte ∷ rest) ends =
    rw ends refl

bare_run : (text more rest : List ℕ) → list_any is_blank more ≡ false → parts rest ≡ true
    → words (InBare text) (more ++ rest) ≡ bare (text ++ more) ∷ words_of rest
bare_run text [] rest none ends = bare_ends text rest ends ∙ ap (λ t. bare t ∷ words_of rest) (sym (append-nil text))
bare_run text (byte ∷ more) rest none ends =
    let (miss, later) = or_parts (is_blank byte) (list_any is_blank more) none in
    rw miss (bare_run (text ++ byte ∷ []) more rest later ends
    ∙ ap (λ t. bare t ∷ words_of rest) (append_assoc text (byte ∷ []) more))

quote_run : (text more rest : List ℕ) → list_any is_quote more ≡ false
    → words (InQuotes text) (more ++ 34 ∷ rest) ≡ words (Closed (text ++ more)) rest
quote_run text [] rest none = ap (λ t. words (Closed t) rest) (sym (append-nil text))
quote_run text (byte ∷ more) rest none =
    let (miss, later) = or_parts (is_quote byte) (list_any is_quote more) none in
    rw miss (quote_run (text ++ byte ∷ []) more rest later
    ∙ ap (λ t. words (Closed t) rest) (append_assoc text (byte ∷ []) more))

quote_no_blank : is_blank 34 ≡ false
unfolding is_blank
quote_no_blank = refl

pub quote_begins : (bytes : List ℕ) → words_of (34 ∷ bytes) ≡ words (InQuotes []) bytes
quote_begins bytes = rw quote_no_blank refl

pub bare_begins : (byte : ℕ) (bytes : List ℕ) → is_blank byte ≡ false → is_quote byte ≡ false
    → words_of (byte ∷ bytes) ≡ words (InBare (byte ∷ [])) bytes
bare_begins byte bytes no_blank no_quote = rw (no_blank, no_quote) refl

word_run : (word : Word) (written rest : List ℕ) → Writes word written → parts rest ≡ true
    → words_of (written ++ rest) ≡ word ∷ words_of rest
word_run _ _ rest (bare_word [] begins none) ends = absurd cc
word_run _ _ rest (bare_word (byte ∷ text) begins none) ends =
    let (miss, later) = or_parts (is_blank byte) (list_any is_blank text) none in
    bare_begins byte (text ++ rest) miss (not-true (is_quote byte) begins) ∙ bare_run (byte ∷ []) text rest later ends
word_run _ _ rest (quoted_word text none) ends =
    quote_begins ((text ++ 34 ∷ []) ++ rest)
    ∙ ap (words (InQuotes [])) (append_assoc text (34 ∷ []) rest)
    ∙ quote_run [] text rest none
    ∙ closed_parts text rest ends

-- the words that spell a line are its words
pub words_spelled : {all : List Word} {line : List ℕ} → Spells all line → words_of line ≡ all
words_spelled (no_word gap blank) = no_words gap blank
words_spelled (word_on gap written rest word more blank writes ends spells) =
    gap_skipped gap (written ++ rest) blank ∙ word_run word written rest writes ends
    ∙ ap (λ l. word ∷ l) (words_spelled spells)

-- ---- what is read is spelled, unless it is broken

abbrev pub is_whole : Word → Bool
is_whole word = is_bare_kind word.kind || is_quoted_kind word.kind

-- what of the open word was read
abbrev front : Mode → List ℕ
front Between = []
front (InBare text) = text
front (InQuotes text) = 34 ∷ text
front (Closed text) = 34 ∷ text ++ 34 ∷ []

abbrev IsOpen : Mode → Type 0
IsOpen Between = Unit {0}
IsOpen (InBare text) = (begins_bare text ≡ true) × (list_any is_blank text ≡ false)
IsOpen (InQuotes text) = list_any is_quote text ≡ false
IsOpen (Closed text) = list_any is_quote text ≡ false

spells_blank : {all : List Word} (byte : ℕ) {line : List ℕ} → is_blank byte ≡ true → Spells all line
    → Spells all (byte ∷ line)
spells_blank byte hit (no_word gap blank) = no_word (byte ∷ gap) (rw hit blank)
spells_blank byte hit (word_on gap written rest word more blank writes ends spells) =
    word_on (byte ∷ gap) written rest word more (rw hit blank) writes ends spells

begins_push : (text : List ℕ) (byte : ℕ) → begins_bare text ≡ true → begins_bare (text ++ byte ∷ []) ≡ true
begins_push [] byte begins = absurd cc
begins_push (first ∷ text) byte begins = begins

pub spelled : (mode : Mode) (line : List ℕ) → IsOpen mode → list_all is_whole (words mode line) ≡ true
    → Spells (words mode line) (front mode ++ line)
spelled Between [] is whole = no_word [] refl
spelled Between (byte ∷ line) is whole = elim (cases_Bool (is_blank byte)) [
  | inl hit ↦ rw hit (spells_blank byte hit (spelled Between line tt (rw hit at whole)))
  | inr miss ↦ elim (cases_Bool (is_quote byte)) [
    | inl quote ↦ rw (miss, quote, eqb-true byte 34 quote)
        (spelled (InQuotes []) line refl (rw (miss, quote) at whole))
    | inr other ↦ rw (miss, other)
        (spelled (InBare (byte ∷ [])) line (rw other refl, rw miss refl) (rw (miss, other) at whole))
  ]
]
spelled (InBare text) [] is whole =
    word_on [] text [] (bare text) [] refl (bare_word text is.0 is.1) refl (no_word [] refl)
spelled (InBare text) (byte ∷ line) is whole = elim (cases_Bool (is_blank byte)) [
  | inl hit ↦ rw hit (word_on [] text (byte ∷ line) (bare text) (words_of line) refl (bare_word text is.0 is.1) hit
      (spells_blank byte hit (spelled Between line tt (rw hit at whole))))
  | inr miss ↦ rw (miss, ← append_assoc text (byte ∷ []) line)
      (spelled (InBare (text ++ byte ∷ [])) line (begins_push text byte is.0, any_push is_blank text byte is.1 miss)
      (rw miss at whole))
]
spelled (InQuotes text) [] is whole = absurd cc
spelled (InQuotes text) (byte ∷ line) is whole = elim (cases_Bool (is_quote byte)) [
  | inl quote ↦ rw (quote, eqb-true byte 34 quote, ← append_assoc text (34 ∷ []) line)
      (spelled (Closed text) line is (rw quote at whole))
  | inr other ↦ rw (other, ← append_assoc text (byte ∷ []) line)
      (spelled (InQuotes (text ++ byte ∷ [])) line (any_push is_quote text byte is other) (rw other at whole))
]
spelled (Closed text) [] is whole =
    word_on [] (34 ∷ text ++ 34 ∷ []) [] (quoted text) [] refl (quoted_word text is) refl (no_word [] refl)
spelled (Closed text) (byte ∷ line) is whole = elim (cases_Bool (is_blank byte)) [
  | inl hit ↦ rw hit (word_on [] (34 ∷ text ++ 34 ∷ []) (byte ∷ line) (quoted text) (words_of line) refl
      (quoted_word text is) hit (spells_blank byte hit (spelled Between line tt (rw hit at whole))))
  | inr miss ↦ let clash = rw miss at whole in absurd cc
]
