-- The words of a line, each with at least one blank between it and the next. A word that begins with a quotation mark
-- ends with the next one, and has to; every other word ends at a blank.
use Rattle.std.specs.Prelude.{◌≡◌, ℕ, Bool, true, false, ◌==◌, ◌||◌, ◌&&◌, not, nat_le, if◌then◌else◌, List, [], ◌∷◌}
use Rattle.std.specs.Prelude.{◌++◌, Option, Some, None}
use Rattle.std.specs.List.{list_all, list_any}
use Rattle.crew_script.specs.declared.word.WordKind.{WordKind}
use Rattle.crew_script.specs.declared.word.WordKind.TheVariants.{Bare, Quoted, Broken}

-- tab, the bytes from 11 to the carriage return, and the blank
unfoldable pub is_blank : ℕ → Bool
is_blank byte = byte == 9 || (nat_le 11 byte && nat_le byte 13) || byte == 32

-- a quotation mark
abbrev pub is_quote : ℕ → Bool
is_quote byte = byte == 34

-- a word: its bytes, or what stands between its quotation marks
pub record Word : Type 0 where
  pub kind : WordKind
  pub text : List ℕ

-- a word that stands without quotation marks, of these bytes
abbrev pub bare : List ℕ → Word
bare text = record { kind = Bare; text = text }

-- a word that stands in quotation marks, with these bytes between them
abbrev pub quoted : List ℕ → Word
quoted text = record { kind = Quoted; text = text }

-- no word: a quotation mark without its other, or with a byte right behind the other that is no blank
abbrev pub broken : Word
broken = record { kind = Broken; text = [] }

-- where in a line the reading is: between words, in a word, between its quotation marks, or behind them
pub data Mode : Type 0 where
  Between : Mode
  InBare : List ℕ → Mode
  InQuotes : List ℕ → Mode
  Closed : List ℕ → Mode

-- the words of what is left of a line
abbrev pub words : Mode → List ℕ → List Word
words Between [] = []
words Between (byte ∷ bytes) =
    if is_blank byte then words Between bytes
    else (if is_quote byte then words (InQuotes []) bytes else words (InBare (byte ∷ [])) bytes)
words (InBare text) [] = bare text ∷ []
words (InBare text) (byte ∷ bytes) = if is_blank byte then bare text ∷ words Between bytes
    else words (InBare (text ++ byte ∷ [])) bytes
words (InQuotes text) [] = broken ∷ []
words (InQuotes text) (byte ∷ bytes) = if is_quote byte then words (Closed text) bytes
    else words (InQuotes (text ++ byte ∷ [])) bytes
words (Closed text) [] = quoted text ∷ []
words (Closed text) (byte ∷ bytes) = if is_blank byte then quoted text ∷ words Between bytes else broken ∷ []

-- the words of a line
abbrev pub words_of : List ℕ → List Word
words_of line = words Between line

-- the first of them
abbrev pub first_of : List Word → Option Word
first_of [] = None
first_of (word ∷ rest) = Some word

-- ---- the same as a relation

-- only blanks
abbrev pub are_blank : List ℕ → Bool
are_blank bytes = list_all is_blank bytes

-- a line goes on like this behind a word: with a blank, or not at all
abbrev pub parts : List ℕ → Bool
parts [] = true
parts (byte ∷ bytes) = is_blank byte

-- a blank stands at the front
abbrev pub begins_blank : List ℕ → Bool
begins_blank [] = false
begins_blank (byte ∷ bytes) = is_blank byte

-- a bare word isn't empty, and begins with no quotation mark
abbrev pub begins_bare : List ℕ → Bool
begins_bare [] = false
begins_bare (byte ∷ bytes) = not (is_quote byte)

-- a word is written like this in a line
pub data Writes : Word → List ℕ → Type 0 where
  bare_word : (text : List ℕ) → begins_bare text ≡ true → list_any is_blank text ≡ false → Writes (bare text) text
  quoted_word : (text : List ℕ) → list_any is_quote text ≡ false → Writes (quoted text) (34 ∷ text ++ 34 ∷ [])

-- a line has these words, with at least one blank between two of them, and with blanks before and after as they come
pub data Spells : List Word → List ℕ → Type 0 where
  no_word : (gap : List ℕ) → are_blank gap ≡ true → Spells [] gap
  word_on : (gap written rest : List ℕ) (word : Word) (more : List Word) → are_blank gap ≡ true → Writes word written
      → parts rest ≡ true
      → Spells more rest → Spells (word ∷ more) (gap ++ (written ++ rest))
