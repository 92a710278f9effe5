-- What a line says by its words is what it says by its form.
use Rattle.std.proofs.Common.{◌≡◌, ℕ, ◌+◌, ◌<◌, ◌≤◌, Bool, true, false, List, [], ◌∷◌, ◌++◌, length, not, sym}
use Rattle.std.proofs.Common.{refl, ap, subst, ◌∙◌, arith, append_assoc, append-nil, inl, inr, eqb-true, take, lt-ltb}
use Rattle.std.proofs.Common.{le-leb, length-append}
use Rattle.std.specs.Prelude.{◌⊎◌, ◌||◌, ◌&&◌, codes, Option, Some, None, unwrap_or, nat_le, nat_lt}
use Rattle.std.specs.List.{list_all, position_or_len}
use Rattle.std.specs.Str.{str_eq_ignore_ascii_case, str_to_ascii_lowercase}
use Rattle.std.proofs.lemmas.Bool.{cases_Bool, and_parts, not-true, leb-true, ltb-true}
use Rattle.fault_words.specs.{Name.is_name, Name.is_bare_name, Names.all_differ, Names.has_name}
use lib.Pointwise.{bytes_decides}
use Rattle.std.proofs.lemmas.List.{length-map}
use Rattle.crew_script.specs.Words.{Word, Between, InQuotes, Closed, words, words_of, is_blank, is_quote, bare}
use Rattle.crew_script.specs.Words.{are_blank, Spells, no_word}
use Rattle.crew_script.specs.{Names.are_taken, Crews.said, declared.dockets.Ask.TheVariants.Take}
use Rattle.crew_script.specs.{declared.line.Line.Line}
use Rattle.crew_script.specs.Lines.{is_bare_kind, is_quoted_kind, is_name_word, says, is_comment, begins_comment}
use Rattle.crew_script.specs.Lines.{only_name, only_margin, margin_of, crew_line, return_line, margin_line, take_line}
use Rattle.crew_script.specs.Lines.{is_taken_too, request_line, line_of, SaysMargin}
use Rattle.decimal_numerals.specs.Numeral.{is_numeral, number_from}
use Rattle.deck_limits.specs.declared.TheConstants.{GREATEST_MARGIN}
use Rattle.crew_script.specs.Says.{Says, says_blank, says_comment, says_crew, says_take, says_return, says_margin}
use Rattle.crew_script.specs.Says.{texts}
use Rattle.crew_script.specs.declared.line.Line.TheVariants.{Nothing, Request, Bad}
use Rattle.crew_script.proofs.NameLemmas.{differ_at, differ_push}
use Rattle.crew_script.proofs.WordLemmas.{blank_skipped, bare_on}
use Rattle.crew_script.proofs.Spelled.{words_spelled, spelled, is_whole, no_words, gap_skipped, bare_begins}

-- ---- the first word

and_none : (b : Bool) → (b && false) ≡ false
and_none true = refl
and_none false = refl

lower : (word : Word) (form : List ℕ) → says word form ≡ true
    → str_to_ascii_lowercase word.text ≡ str_to_ascii_lowercase form
lower word form here =
    let (kind, same) = and_parts (is_bare_kind word.kind) (str_eq_ignore_ascii_case word.text form) here in
    (bytes_decides (str_to_ascii_lowercase word.text) (str_to_ascii_lowercase form)).0 same

-- it says no other form
other_form : (word : Word) (form other : List ℕ) → says word form ≡ true → str_eq_ignore_ascii_case form other ≡ false
    → says word other ≡ false
other_form word form other here differ =
    rw (lower word form here, differ) (and_none (is_bare_kind word.kind))

mark_lower : (text : List ℕ) → begins_comment text ≡ true → begins_comment (str_to_ascii_lowercase text) ≡ true
mark_lower [] begins = absurd cc
mark_lower (byte ∷ text) begins =
    subst (λ b. begins_comment (str_to_ascii_lowercase (b ∷ text)) ≡ true) (sym (eqb-true byte 35 begins)) refl

-- and begins no comment
no_comment : (word : Word) (form : List ℕ) → says word form ≡ true
    → begins_comment (str_to_ascii_lowercase form) ≡ false → is_comment word ≡ false
no_comment word form here plain = elim (cases_Bool (begins_comment word.text)) [
  | inl hit ↦
      let clash = sym (ap begins_comment (lower word form here) ∙ plain) ∙ mark_lower word.text hit in
      absurd cc
  | inr miss ↦ rw miss (and_none (is_bare_kind word.kind))
]

-- ---- the names of a take

pub record Took (before : List (List ℕ)) (names : List Word) : Type 0 where
  pub are : list_all is_name_word names ≡ true
  pub differ : all_differ (before ++ texts names) ≡ true
  pub few : length before + length names ≤ 16
  pub some : 1 ≤ length before + length names

takes : (before : List (List ℕ)) (word : Word) → length before < 16 → is_name_word word ≡ true
    → has_name before word.text ≡ false → is_taken_too before word ≡ true
takes before word few is new = rw (is, new, lt-ltb (length before) 16 few) refl

pub take_all : (before : List (List ℕ)) (names : List Word) → Took before names
    → take_line before names ≡ Request (Take (before ++ texts names))
take_all before [] took =
    rw (le-leb 1 (length before) (omega (arith, took.some))) (ap (λ l. Request (Take l)) (sym (append-nil before)))
take_all before (word ∷ names) took =
    let (is, are) = and_parts (is_name_word word) (list_all is_name_word names) took.are in
    let new = differ_at before word.text (texts names) took.differ in
    let long = length-append before (word.text ∷ []) in
    let same = append_assoc before (word.text ∷ []) (texts names) in
    rw (takes before word (omega (arith, took.few)) is new)
    (take_all (before ++ word.text ∷ []) names (record {
      are = are;
      differ = rw same took.differ;
      few = omega (arith, long, took.few);
      some = omega (arith, long);
    })
    ∙ ap (λ l. Request (Take l)) same)

pub take_read : (before : List (List ℕ)) (names : List Word) → length before ≤ 16 → all_differ before ≡ true
    → (take_line before names ≡ Bad) ⊎ Took before names
take_read before [] few differ = elim (cases_Bool (nat_le 1 (length before))) [
  | inl hit ↦ inr (let some = leb-true 1 (length before) hit in
      record {
        are = refl;
        differ = rw (append-nil before) differ;
        few = omega (arith, few);
        some = omega (arith, some);
      })
  | inr miss ↦ inl (rw miss refl)
]
take_read before (word ∷ names) few differ = elim (cases_Bool (is_taken_too before word)) [
  | inl hit ↦
      let (front, new) =
      and_parts (nat_lt (length before) 16 && is_name_word word) (not (has_name before word.text)) hit in
      let (short, is) = and_parts (nat_lt (length before) 16) (is_name_word word) front in
      let below = ltb-true (length before) 16 short in
      let long = length-append before (word.text ∷ []) in
      let more = differ_push before word.text differ (not-true (has_name before word.text) new) in
      elim (take_read (before ++ word.text ∷ []) names (omega (arith, long, below)) more) [
        | inl bad ↦ inl (rw hit bad)
        | inr took ↦ inr (record {
          are = rw is took.are;
          differ = rw append_assoc at took.differ;
          few = omega (arith, took.few, long);
          some = omega arith;
        })
      ]
  | inr miss ↦ inl (rw miss refl)
]

-- ---- from the form to the words

hash_no_blank : is_blank 35 ≡ false
unfolding is_blank
hash_no_blank = refl

pub says_one : (line : List ℕ) (other : Line) → Says line other → said line ≡ other
says_one line _ (says_blank _ blank) = ap line_of (no_words line blank)
says_one _ _ (says_comment gap rest blank) =
    ap line_of (gap_skipped gap (35 ∷ rest) blank ∙ bare_begins 35 rest hash_no_blank refl ∙ bare_on (35 ∷ []) rest)
says_one line _ (says_crew _ first name spells form is) =
    ap line_of (words_spelled spells)
    ∙ rw (no_comment first (codes "crew") form refl, form, is) refl
says_one line _ (says_take _ first names spells form are taken) =
    let (sizes, differ) =
    and_parts (nat_le 1 (length (texts names)) && nat_le (length (texts names)) 16) (all_differ (texts names))
    taken in
    let (some, few) = and_parts (nat_le 1 (length (texts names))) (nat_le (length (texts names)) 16) sizes in
    let long : length (texts names) ≡ length names = length-map names (λ (word : Word). word.text) in
    let least = leb-true 1 (length (texts names)) some in
    let most = leb-true (length (texts names)) 16 few in
    ap line_of (words_spelled spells)
    ∙ rw (no_comment first (codes "take") form refl, other_form first (codes "take") (codes "crew") form refl, form)
    (take_all [] names (record {
      are = are;
      differ = differ;
      few = omega (arith, long, most);
      some = omega (arith, long, least);
    }))
says_one line _ (says_return _ first name spells form is) =
    ap line_of (words_spelled spells)
    ∙ rw (
      no_comment first (codes "return") form refl,
      other_form first (codes "return") (codes "crew") form refl,
      other_form first (codes "return") (codes "take") form refl,
      form,
      is,
    ) refl
says_one line _ (says_margin _ first word number spells form kind is) =
    ap line_of (words_spelled spells)
    ∙ rw (
      no_comment first (codes "margin") form refl,
      other_form first (codes "margin") (codes "crew") form refl,
      other_form first (codes "margin") (codes "take") form refl,
      other_form first (codes "margin") (codes "return") form refl,
      form,
      kind,
    )
    (ap margin_line is)

-- ---- from the words to the form

none_spelled : {line : List ℕ} → Spells [] line → are_blank line ≡ true
none_spelled (no_word gap blank) = blank

spells_all : (line : List ℕ) {all : List Word} → words_of line ≡ all → list_all is_whole all ≡ true → Spells all line
spells_all line same whole =
    subst (λ l. Spells l line) same (spelled Between line tt (rw same whole))

form_whole : (word : Word) (form : List ℕ) → says word form ≡ true → is_whole word ≡ true
form_whole word form here =
    let (kind, same) = and_parts (is_bare_kind word.kind) (str_eq_ignore_ascii_case word.text form) here in
    rw kind refl

name_whole : (word : Word) → is_name_word word ≡ true → is_whole word ≡ true
name_whole word is = elim (cases_Bool (is_bare_kind word.kind)) [
  | inl hit ↦ rw hit refl
  | inr miss ↦ elim (cases_Bool (is_quoted_kind word.kind)) [
    | inl quote ↦ rw (miss, quote) refl
    | inr none ↦
        let parts =
        and_parts (is_name word.text) (is_quoted_kind word.kind
        || (is_bare_kind word.kind && is_bare_name word.text)) is in
        let clash = rw (none, miss) at parts.1 in absurd cc
  ]
]

names_whole : (words : List Word) → list_all is_name_word words ≡ true → list_all is_whole words ≡ true
names_whole [] are = refl
names_whole (word ∷ words) are =
    let (is, more) = and_parts (is_name_word word) (list_all is_name_word words) are in
    rw (name_whole word is) (names_whole words more)

-- a line whose first word begins a comment
closed_first : (text line : List ℕ) {first : Word} {rest : List Word} → words (Closed text) line ≡ first ∷ rest
    → is_bare_kind first.kind ≡ false
closed_first text [] same = grind (arith, same)
closed_first text (byte ∷ line) same = elim (cases_Bool (is_blank byte)) [
  | inl hit ↦ grind (arith, same, hit)
  | inr miss ↦ grind (arith, same, miss)
]

quotes_first : (text line : List ℕ) {first : Word} {rest : List Word} → words (InQuotes text) line ≡ first ∷ rest
    → is_bare_kind first.kind ≡ false
quotes_first text [] same = grind (arith, same)
quotes_first text (byte ∷ line) {first} {rest} same = elim (cases_Bool (is_quote byte)) [
  | inl hit ↦ closed_first text line (rw hit at same)
  | inr miss ↦ quotes_first (text ++ byte ∷ []) line (rw miss at same)
]

record IsComment (line : List ℕ) : Type 0 where
  gap : List ℕ
  more : List ℕ
  blank : are_blank gap ≡ true
  split : line ≡ gap ++ 35 ∷ more

comment_found : (line : List ℕ) {first : Word} {rest : List Word} → words_of line ≡ first ∷ rest
    → is_comment first ≡ true → IsComment line
comment_found [] same here = absurd cc
comment_found (byte ∷ line) {first} same here = elim (cases_Bool (is_blank byte)) [
  | inl hit ↦
      let found = comment_found line (sym (blank_skipped byte line hit) ∙ same) here in
      record {
        gap = byte ∷ found.gap;
        more = found.more;
        blank = ap (λ b. b && are_blank found.gap) hit ∙ found.blank;
        split = ap (λ l. byte ∷ l) found.split;
      }
  | inr miss ↦ elim (cases_Bool (is_quote byte)) [
    | inl quote ↦
        let kind = quotes_first [] line (rw (miss, quote) at same) in
        let parts = and_parts (is_bare_kind first.kind) (begins_comment first.text) here in
        absurd (let both = sym parts.0 ∙ kind in cc)
    | inr other ↦
        let all = sym same ∙ bare_begins byte line miss other ∙ bare_on (byte ∷ []) line in
        let is : first ≡ bare (byte ∷ take (position_or_len is_blank line) line) = grind (arith, all) in
        let here_too = (and_parts (is_bare_kind first.kind) (begins_comment first.text) here).1 in
        let mark : begins_comment (byte ∷ take (position_or_len is_blank line) line) ≡ true =
        subst (λ (w : Word). begins_comment w.text ≡ true) is here_too in
        record { gap = []; more = line; blank = refl; split = ap (λ b. b ∷ line) (eqb-true byte 35 mark) }
  ]
]

comment_says : {line : List ℕ} → IsComment line → Says line Nothing
comment_says found = subst (λ l. Says l Nothing) (sym found.split) (says_comment found.gap found.more found.blank)

record OnlyName (words : List Word) : Type 0 where
  word : Word
  alone : words ≡ word ∷ []
  is : is_name_word word ≡ true

name_read : (words : List Word) → (only_name words ≡ None) ⊎ OnlyName words
name_read [] = inl refl
name_read (word ∷ []) = elim (cases_Bool (is_name_word word)) [
  | inl hit ↦ inr (record { word = word; alone = refl; is = hit })
  | inr miss ↦ inl (rw miss refl)
]
name_read (word ∷ next ∷ rest) = inl refl

record OnlyMargin (words : List Word) : Type 0 where
  word : Word
  number : ℕ
  alone : words ≡ word ∷ []
  kind : is_bare_kind word.kind ≡ true
  is : margin_of word.text ≡ Some number

option_cases : (found : Option ℕ) → (found ≡ None) ⊎ ((number : ℕ) × (found ≡ Some number))
option_cases None = inl refl
option_cases (Some number) = inr (number, refl)

margin_read : (words : List Word) → (only_margin words ≡ None) ⊎ OnlyMargin words
margin_read [] = inl refl
margin_read (word ∷ []) = elim (cases_Bool (is_bare_kind word.kind)) [
  | inl hit ↦ elim (option_cases (margin_of word.text)) [
    | inl none ↦ inl (rw hit none)
    | inr some ↦ inr (record { word = word; number = some.0; alone = refl; kind = hit; is = some.1 })
  ]
  | inr miss ↦ inl (rw miss refl)
]
margin_read (word ∷ next ∷ rest) = inl refl

-- no form, or a line that says so
abbrev Reads : List ℕ → Line → Type 0
Reads line other = (other ≡ Bad) ⊎ Says line other

-- a line of a form whose rest is one name
read_name : (line : List ℕ) {first : Word} {rest : List Word} (form : List ℕ) (saying : Option (List ℕ) → Line)
    → words_of line ≡ first ∷ rest → says first form ≡ true → saying None ≡ Bad
    → ((name : Word) → Spells (first ∷ name ∷ []) line → is_name_word name ≡ true → Says line (saying (Some name.text)))
    → Reads line (saying (only_name rest))
read_name line {first} {rest} form saying same here bad says_so = elim (name_read rest) [
  | inl none ↦ inl (ap saying none ∙ bad)
  | inr found ↦
      let spells =
      spells_all line (same ∙ ap (λ l. first ∷ l) found.alone)
      (rw (form_whole first form here, name_whole found.word found.is) refl) in
      inr (rw (found.alone, found.is) (says_so found.word spells found.is))
]

read_margin : (line : List ℕ) {first : Word} {rest : List Word} → words_of line ≡ first ∷ rest
    → says first (codes "margin") ≡ true → Reads line (margin_line (only_margin rest))
read_margin line {first} {rest} same form = elim (margin_read rest) [
  | inl none ↦ inl (ap margin_line none)
  | inr found ↦
      let spells =
      spells_all line (same ∙ ap (λ l. first ∷ l) found.alone)
      (rw (form_whole first (codes "margin") form, found.kind) refl) in
      inr (rw (found.alone, found.kind, found.is)
      (says_margin line first found.word found.number spells form found.kind found.is))
]

took_taken : (names : List Word) → Took [] names → are_taken (texts names) ≡ true
took_taken names took =
    let long : length (texts names) ≡ length names = length-map names (λ (word : Word). word.text) in
    rw (
      le-leb 1 (length (texts names)) (omega (arith, took.some, long)),
      le-leb (length (texts names)) 16 (omega (arith, took.few, long)),
    ) took.differ

read_take : (line : List ℕ) {first : Word} {rest : List Word} → words_of line ≡ first ∷ rest
    → says first (codes "take") ≡ true → Reads line (take_line [] rest)
read_take line {first} {rest} same form = elim (take_read [] rest (omega arith) refl) [
  | inl bad ↦ inl bad
  | inr took ↦
      let spells = spells_all line same (rw (form_whole first (codes "take") form) (names_whole rest took.are)) in
      inr (subst (Says line) (sym (take_all [] rest took))
      (says_take line first rest spells form took.are (took_taken rest took)))
]

read_request : (line : List ℕ) {first : Word} {rest : List Word} → words_of line ≡ first ∷ rest
    → Reads line (request_line first rest)
read_request line {first} {rest} same = elim (cases_Bool (says first (codes "take"))) [
  | inl take ↦ rw take (read_take line same take)
  | inr no_take ↦ elim (cases_Bool (says first (codes "return"))) [
    | inl back ↦ rw (no_take, back) (read_name line (codes "return") return_line same back refl
        (λ name spells is. says_return line first name spells back is))
    | inr no_back ↦ elim (cases_Bool (says first (codes "margin"))) [
      | inl margin ↦ rw (no_take, no_back, margin) (read_margin line same margin)
      | inr none ↦ rw (no_take, no_back, none) (inl refl)
    ]
  ]
]

by_words : (line : List ℕ) (all : List Word) → words_of line ≡ all → Reads line (line_of all)
by_words line [] same = inr (says_blank line (none_spelled (spells_all line same refl)))
by_words line (first ∷ rest) same = elim (cases_Bool (is_comment first)) [
  | inl hit ↦ rw hit (inr (comment_says (comment_found line same hit)))
  | inr miss ↦ elim (cases_Bool (says first (codes "crew"))) [
    | inl crew ↦ rw (miss, crew) (read_name line (codes "crew") crew_line same crew refl
        (λ name spells is. says_crew line first name spells crew is))
    | inr other ↦ rw (miss, other) (read_request line same)
  ]
]

pub says_read : (line : List ℕ) → (said line ≡ Bad) ⊎ Says line (said line)
says_read line = by_words line (words_of line) refl

-- ---- margins

small_margin : (text : List ℕ) (number : ℕ) → margin_of text ≡ Some number → number ≤ GREATEST_MARGIN
small_margin text number is =
    elim (cases_Bool (is_numeral 4 text && nat_le (number_from 0 text) GREATEST_MARGIN)) [
      | inl hit ↦
          let (form, small) = and_parts (is_numeral 4 text) (nat_le (number_from 0 text) GREATEST_MARGIN) hit in
          let same : number_from 0 text ≡ number = ap (λ o. unwrap_or o 0) (rw hit at is) in
          subst (λ n. n ≤ GREATEST_MARGIN) same (leb-true (number_from 0 text) GREATEST_MARGIN small)
      | inr miss ↦ let none = rw miss at is in absurd cc
    ]

says_small : {line : List ℕ} {other : Line} → Says line other → SaysMargin other
says_small (says_blank _ blank) = tt
says_small (says_comment gap rest blank) = tt
says_small (says_crew _ first name spells form is) = tt
says_small (says_take _ first names spells form are taken) = tt
says_small (says_return _ first name spells form is) = tt
says_small (says_margin _ first word number spells form kind is) = small_margin word.text number is

-- a line says no margin above the greatest
pub said_small : (line : List ℕ) → SaysMargin (said line)
said_small line = elim (says_read line) [
  | inl bad ↦ subst SaysMargin (sym bad) tt
  | inr says ↦ says_small says
]
