-- A lexeme is of one kind.
use Rattle.std.proofs.Common.{◌≡◌, Bool, true, false, Some, None, refl}
use Rattle.std.specs.Prelude.{◌&&◌, ◌||◌, if◌then◌else◌}
use Rattle.fault_words.specs.{declared.kind.GateKind.GateKind, Name.is_bare_name}
use Rattle.galileo_tree.specs.GateWord.{gate_word, kind_said}
use Rattle.galileo_lexer.specs.declared.token.TokenKind.{TokenKind}
use Rattle.galileo_lexer.specs.declared.token.TokenKind.TheVariants.{Word, Quoted, Equals, Semicolon}
use Rattle.galileo_tree.specs.Lexeme.{Lexeme, is_equals, is_semicolon, is_name, is_bare, is_word_kind, is_quoted_kind}
use Rattle.galileo_tree.specs.Lexeme.{is_equals_kind, is_semicolon_kind}

-- cases on a test, with what the test said
pub by_test : {A : Type 0} (b : Bool) → (b ≡ true → A) → (b ≡ false → A) → A
by_test true on off = on refl
by_test false on off = off refl

equals_apart : (kind : TokenKind) (bare : Bool) → is_equals_kind kind ≡ true →
    (is_semicolon_kind kind ≡ false) × ((is_quoted_kind kind || (is_word_kind kind && bare)) ≡ false)
equals_apart Word bare is = absurd (cc)
equals_apart Quoted bare is = absurd (cc)
equals_apart Equals bare is = (refl, refl)
equals_apart Semicolon bare is = absurd (cc)

-- no `=` is a name or a semicolon
pub equals_alone : (lexeme : Lexeme) → is_equals lexeme ≡ true
    → (is_semicolon lexeme ≡ false) × (is_name lexeme ≡ false)
unfolding is_equals is_semicolon is_name is_bare
equals_alone lexeme is = equals_apart lexeme.kind (is_bare_name lexeme.text) is

-- what a semicolon does not answer is the answer of another lexeme
not_semicolon : {A : Type 0} (of : TokenKind → A) (answer : A) (kind : TokenKind) → of kind ≡ answer
    → (of Semicolon ≡ answer → ⊥) → is_semicolon_kind kind ≡ false
not_semicolon of answer Word is apart = refl
not_semicolon of answer Quoted is apart = refl
not_semicolon of answer Equals is apart = refl
not_semicolon of answer Semicolon is apart = absurd (apart is)

-- no name is a semicolon
pub name_alone : (lexeme : Lexeme) → is_name lexeme ≡ true → is_semicolon lexeme ≡ false
unfolding is_semicolon is_name is_bare
name_alone lexeme is =
    not_semicolon (λ kind. is_quoted_kind kind || (is_word_kind kind && is_bare_name lexeme.text)) true lexeme.kind is
    (λ e. absurd cc)

-- no bare word is a semicolon
pub bare_alone : (lexeme : Lexeme) → is_bare lexeme ≡ true → is_semicolon lexeme ≡ false
unfolding is_semicolon is_bare
bare_alone lexeme is =
    not_semicolon (λ kind. is_word_kind kind && is_bare_name lexeme.text) true lexeme.kind is (λ e. absurd cc)

-- no gate word is a semicolon
pub said_alone : (lexeme : Lexeme) (said : GateKind) → kind_said lexeme ≡ Some said → is_semicolon lexeme ≡ false
unfolding is_semicolon kind_said
said_alone lexeme said is =
    not_semicolon (λ kind. if is_word_kind kind then gate_word lexeme.text else None) (Some said) lexeme.kind is
    (λ e. absurd cc)
