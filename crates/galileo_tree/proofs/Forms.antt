-- Statements that are spelled keep the form of their spelling.
use Rattle.std.proofs.Common.{◌≡◌, ℕ, suc, ◌+◌, ◌*◌, ◌-◌, ◌^◌, ◌<◌, ◌≤◌, Bool, true, ◌&&◌, List, [], ◌∷◌, length, map}
use Rattle.std.proofs.Common.{take, drop, Option, Some, None, Ok, sym, ap, ◌∙◌, ◌++◌, append-nil, subst, arith}
use Rattle.std.specs.Prelude.{All, IfSome, nat_le, nat_lt, codes, if◌then◌else◌}
use Rattle.std.specs.{List.list_all, List.prefix_len, Char.is_ascii_digit, Str.str_eq_ignore_ascii_case}
use Rattle.std.proofs.lemmas.Bool.{and_parts, cond_both, leb-true}
use Rattle.std.proofs.lemmas.List.Elements.{All-nil, All-cons}
use Rattle.fault_words.specs.{declared.kind.GateKind.GateKind, Name.is_bare_name}
use Rattle.fault_words.specs.declared.kind.GateKind.TheVariants.{And, Or, Votes, Pand, Por, Seq, Fdep, Csp, Wsp, Hsp}
use Rattle.galileo_tree.specs.{declared.raw.Statement.Statement, Reads.EndsIn}
use Rattle.galileo_tree.specs.declared.raw.Statement.TheVariants.{Top, Gate, Basic}
use Rattle.galileo_tree.specs.ReadTree.{HasShortNumbers, HasBareWord, KeepsForm}
use Rattle.galileo_tree.specs.Lexeme.{Lexeme, is_bare, is_word_kind}
use Rattle.decimal_numerals.specs.Numeral.{number_from, are_digits}
use Rattle.galileo_tree.specs.GateWord.{votes_if, votes_of, gate_word, kind_said}
use Rattle.galileo_tree.specs.Grammar.{AreAttributes, Spells, SpellsAll, Written, attribute_in}
use Rattle.galileo_lexer.specs.declared.token.LexPlace.{LexPlace}
use Rattle.galileo_tree.specs.ReadTree.{ReadTree}
use Rattle.galileo_tree.specs.Lexeme.{Stream, place_at}
use Rattle.galileo_tree.specs.Parsed.{Outside, lexemes_of, parsed, parsed_from, parsed_text}
use Rattle.galileo_tree.specs.Grammar.{IsReading}
use Rattle.galileo_tree.proofs.{Parses.with_front, Sound.sound}
use Rattle.decimal_numerals.proofs.Digits.{digit_at, milliard, small_more}

-- ---- gate words

number_below : (number i : ℕ) (digits : List ℕ) → list_all is_ascii_digit digits ≡ true → number < 10 ^ i
    → number_from number digits < 10 ^ (i + length digits)
number_below number i [] each small = subst (λ k. number < 10 ^ k) (let e : i ≡ i + 0 = omega arith in e) small
number_below number i (digit ∷ digits) each small =
    let range : (48 ≤ digit) × (digit ≤ 57) = digit_at (digit ∷ digits) 0 each (omega arith) in
    let more =
    number_below (10 * number + (digit - 48)) (i + 1) digits
    (and_parts (is_ascii_digit digit) (list_all is_ascii_digit digits) each).1
    (small_more number i digit small range.0 range.1) in
    subst (λ k. number_from (10 * number + (digit - 48)) digits < 10 ^ k)
    (let e : i + 1 + length digits ≡ i + suc (length digits) = omega arith in e) more

short_number : (digits : List ℕ) → are_digits 9 digits ≡ true → number_from 0 digits ≤ 999999999
short_number digits are =
    let parts = and_parts (nat_le 1 (length digits) && nat_le (length digits) 9) (list_all is_ascii_digit digits) are in
    let few = leb-true (length digits) 9 (and_parts (nat_le 1 (length digits)) (nat_le (length digits) 9) parts.0).1 in
    let below : number_from 0 digits < 10 ^ length digits =
    subst (λ k. number_from 0 digits < 10 ^ k) (let e : 0 + length digits ≡ length digits = omega arith in e)
    (number_below 0 0 digits parts.1 (omega arith)) in
    milliard (number_from 0 digits) (length digits) below few

abbrev IsShort : Option GateKind → Type 0
IsShort kind = IfSome kind HasShortNumbers

votes_if-short : (front of back : List ℕ) → IsShort (votes_if front of back)
votes_if-short front of back =
    cond_both (are_digits 9 front && str_eq_ignore_ascii_case of (codes "of") && are_digits 9 back)
    (Some (Votes (number_from 0 front) (number_from 0 back))) None IsShort
    (λ all.
    let parts = and_parts (are_digits 9 front && str_eq_ignore_ascii_case of (codes "of")) (are_digits 9 back) all in (
      short_number front (and_parts (are_digits 9 front) (str_eq_ignore_ascii_case of (codes "of")) parts.0).0,
      short_number back parts.1,
    ))
    (λ _. tt)

votes-short : (word : List ℕ) → IsShort (votes_of word)
votes-short word =
    let size : ℕ = prefix_len is_ascii_digit word in
    cond_both (nat_lt (length (drop size word)) 2) None
    (votes_if (take size word) (take 2 (drop size word)) (drop 2 (drop size word))) IsShort
    (λ _. tt) (λ _. votes_if-short (take size word) (take 2 (drop size word)) (drop 2 (drop size word)))

-- a word, or what other words give
or_other : (b : Bool) (kind : GateKind) (other : Option GateKind) → HasShortNumbers kind → IsShort other
    → IsShort (if b then Some kind else other)
or_other b kind other short later = cond_both b (Some kind) other IsShort (λ _. short) (λ _. later)

gate_word-short : (word : List ℕ) → IsShort (gate_word word)
unfolding gate_word
gate_word-short word =
    or_other (str_eq_ignore_ascii_case word (codes "and")) And _ tt
    (or_other (str_eq_ignore_ascii_case word (codes "or")) Or _ tt
    (or_other (str_eq_ignore_ascii_case word (codes "pand")) Pand _ tt
    (or_other (str_eq_ignore_ascii_case word (codes "por")) Por _ tt
    (or_other (str_eq_ignore_ascii_case word (codes "seq")) Seq _ tt
    (or_other (str_eq_ignore_ascii_case word (codes "fdep")) Fdep _ tt
    (or_other (str_eq_ignore_ascii_case word (codes "csp")) Csp _ tt
    (or_other (str_eq_ignore_ascii_case word (codes "wsp")) Wsp _ tt
    (or_other (str_eq_ignore_ascii_case word (codes "hsp")) Hsp _ tt
    (votes-short word)))))))))

kind_said-short : (lexeme : Lexeme) (kind : GateKind) → kind_said lexeme ≡ Some kind → HasShortNumbers kind
unfolding kind_said
kind_said-short lexeme kind said =
    subst IsShort said (cond_both (is_word_kind lexeme.kind) (gate_word lexeme.text) None IsShort
    (λ _. gate_word-short lexeme.text) (λ _. tt))

-- ---- attributes

bare_text : (lexeme : Lexeme) → is_bare lexeme ≡ true → is_bare_name lexeme.text ≡ true
unfolding is_bare
bare_text lexeme bare = (and_parts (is_word_kind lexeme.kind) (is_bare_name lexeme.text) bare).1

bare_words : (attributes : List Written) → AreAttributes attributes → All HasBareWord (map attribute_in attributes)
bare_words [] each = All-nil HasBareWord
bare_words (written ∷ more) each =
    All-cons HasBareWord (attribute_in written) (map attribute_in more) (bare_text written.word each.0.bare)
    (bare_words more each.1)

-- ---- statements

kept_form : (statement : Statement) (lexemes : List Lexeme) → Spells statement lexemes → KeepsForm statement
kept_form (Top top) lexemes spells = tt
kept_form (Gate gate) lexemes spells = kind_said-short spells.word gate.kind spells.said
kept_form (Basic basic) lexemes spells =
    subst (λ b. All HasBareWord b.attributes) (sym spells.is) (bare_words spells.attributes spells.each)

pub kept_forms : (statements : List Statement) (lexemes : List Lexeme) → SpellsAll statements lexemes
    → All KeepsForm statements
kept_forms [] lexemes spells = All-nil KeepsForm
kept_forms (statement ∷ more) lexemes (front, back, is, first, rest) =
    All-cons KeepsForm statement more (kept_form statement front first) (kept_forms more back rest)

-- what a text gives
pub read_form : (text : List ℕ) (read : ReadTree) → parsed_text text ≡ Ok read → All KeepsForm read.statements
read_form text read parsed =
    kept_forms read.statements (lexemes_of text).lexemes
    (subst (IsReading (lexemes_of text)) parsed (sound (lexemes_of text))).0

-- the statements before the end of a text
pub whole_form : (text : List ℕ) (statements : List Statement) (stream : Stream) (place : LexPlace)
    → parsed_text text ≡ with_front statements (parsed_from Outside stream) → EndsIn stream (Ok place)
    → All KeepsForm statements
whole_form text statements stream place same ends =
    subst (All KeepsForm) (append-nil statements)
    (read_form text (record { statements = statements ++ []; end = place_at place })
    (same
    ∙ ap (λ l. with_front statements (parsed Outside l stream.ending)) ends.none_left
    ∙ ap (λ e. with_front statements (parsed Outside [] e)) ends.ending))
