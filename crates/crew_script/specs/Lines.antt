-- What a line of a crew part says, by its words.
use Rattle.std.specs.Prelude.{ℕ, Bool, true, false, not, ◌==◌, ◌&&◌, ◌||◌, nat_le, nat_lt}
use Rattle.std.specs.Prelude.{if◌then◌else◌, List, [], ◌∷◌, ◌++◌, length, codes, Option, Some, None}
use Rattle.std.specs.Str.{str_eq_ignore_ascii_case}
use Rattle.decimal_numerals.specs.Numeral.{is_numeral, number_from}
use Rattle.fault_words.specs.{Name.is_name, Name.is_bare_name, Names.has_name}
use Rattle.crew_script.specs.{declared.word.WordKind.WordKind, Words.Word, Names.most_taken, Dockets.HasMargin}
use Rattle.crew_script.specs.{declared.line.Line.Line}
use Rattle.crew_script.specs.declared.word.WordKind.TheVariants.{Bare, Quoted, Broken}
use Rattle.deck_limits.specs.declared.TheConstants.{GREATEST_MARGIN}
use Rattle.crew_script.specs.declared.dockets.Ask.TheVariants.{Take, Return, Margin}
use Rattle.crew_script.specs.declared.line.Line.TheVariants.{Nothing, Crew, Request, Bad}

-- a word that does not begin with a quotation mark
abbrev pub is_bare_kind : WordKind → Bool
is_bare_kind Bare = true
is_bare_kind Quoted = false
is_bare_kind Broken = false

-- a word between two quotation marks, with a blank or the line's end behind the second
abbrev pub is_quoted_kind : WordKind → Bool
is_quoted_kind Bare = false
is_quoted_kind Quoted = true
is_quoted_kind Broken = false

-- a name: 1 to 255 bytes of its form, and without quotation marks a bare name
abbrev pub is_name_word : Word → Bool
is_name_word word = is_name word.text && (is_quoted_kind word.kind
    || (is_bare_kind word.kind && is_bare_name word.text))

-- the word of a form, without regard to ASCII case
abbrev pub says : Word → List ℕ → Bool
says word form = is_bare_kind word.kind && str_eq_ignore_ascii_case word.text form

-- a text whose first byte is `#`
abbrev pub begins_comment : List ℕ → Bool
begins_comment [] = false
begins_comment (byte ∷ bytes) = byte == 35

-- `#` begins a comment
abbrev pub is_comment : Word → Bool
is_comment word = is_bare_kind word.kind && begins_comment word.text

-- ---- margins

-- the margin that a text writes
abbrev pub margin_of : List ℕ → Option ℕ
margin_of text =
    if is_numeral 4 text && nat_le (number_from 0 text) GREATEST_MARGIN then Some (number_from 0 text) else None

-- ---- forms

-- the name that a word says, where it has the form of a name
abbrev pub name_in : Word → Option (List ℕ)
name_in word = if is_name_word word then Some word.text else None

-- the one name that the words are
abbrev pub only_name : List Word → Option (List ℕ)
only_name [] = None
only_name (word ∷ []) = name_in word
only_name (word ∷ next ∷ rest) = None

-- the one number that the words are
abbrev pub only_margin : List Word → Option ℕ
only_margin [] = None
only_margin (word ∷ []) = if is_bare_kind word.kind then margin_of word.text else None
only_margin (word ∷ next ∷ rest) = None

-- what a `crew` line says: that a crew of this name begins; the line is bad without one name
abbrev pub crew_line : Option (List ℕ) → Line
crew_line None = Bad
crew_line (Some name) = Crew name

-- what a `return` line says: the return of the unit of this name; the line is bad without one name
abbrev pub return_line : Option (List ℕ) → Line
return_line None = Bad
return_line (Some name) = Request (Return name)

-- what a `margin` line says: the wish for this margin; the line is bad without one margin
abbrev pub margin_line : Option ℕ → Line
margin_line None = Bad
margin_line (Some number) = Request (Margin number)

-- a word is one more name to take, behind these
abbrev pub is_taken_too : List (List ℕ) → Word → Bool
is_taken_too names word = nat_lt (length names) most_taken && is_name_word word && not (has_name names word.text)

-- what a take line says, behind these names
abbrev pub take_line : List (List ℕ) → List Word → Line
take_line names [] = if nat_le 1 (length names) then Request (Take names) else Bad
take_line names (word ∷ words) = if is_taken_too names word then take_line (names ++ word.text ∷ []) words else Bad

-- what a line says that begins with this word, where that says no crew
abbrev pub request_line : Word → List Word → Line
request_line first words =
    if says first (codes "take") then take_line [] words
    else (if says first (codes "return") then return_line (only_name words)
    else (if says first (codes "margin") then margin_line (only_margin words)
    else Bad))

-- what the words of a line say
abbrev pub line_of : List Word → Line
line_of [] = Nothing
line_of (first ∷ words) =
    if is_comment first then Nothing
    else (if says first (codes "crew") then crew_line (only_name words)
    else request_line first words)

-- a margin's number is the greatest at most
abbrev pub SaysMargin : Line → Type 0
SaysMargin (Request ask) = HasMargin ask
SaysMargin _ = Unit {0}
