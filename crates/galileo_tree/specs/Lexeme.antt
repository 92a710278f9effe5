-- A token with its text: what the grammar sees of it.
use Rattle.std.specs.Prelude.{◌≡◌, ℕ, ◌+◌, ◌-◌, Bool, true, false, ◌&&◌, ◌||◌, List, slice_range, codes, Result}
use Rattle.std.specs.Str.{str_eq_ignore_ascii_case}
use Rattle.fault_words.specs.{declared.place.Place.Place, Name.is_bare_name, Name.is_name as is_name_text}
use Rattle.galileo_lexer.specs.{declared.token.Token.Token, declared.token.TokenKind.TokenKind}
use Rattle.galileo_lexer.specs.{declared.token.LexPlace.LexPlace, declared.token.LexFault.LexFault}
use Rattle.galileo_lexer.specs.declared.token.TokenKind.TheVariants.{Word, Quoted, Equals, Semicolon}
use Rattle.galileo_tree.specs.declared.raw.Placed.{Placed}

-- a token's kind, the text of its word or between its quotes, and its place
pub record Lexeme : Type 0 where
  pub kind : TokenKind
  pub text : List ℕ
  pub place : Place

-- the lexer's place, as one of the tree
abbrev pub place_at : LexPlace → Place
place_at place = record { line = place.line; column = place.column }

-- the text of a token of each kind: a quoted one's stands between the quotes
abbrev pub text_between : TokenKind → List ℕ → ℕ → ℕ → List ℕ
text_between Quoted text start stop = slice_range text (start + 1) (stop - 1)
text_between _ text start stop = slice_range text start stop

-- the lexeme of a token that lies in this text
abbrev pub lexeme_of : List ℕ → Token → Lexeme
lexeme_of text token =
    record {
      kind = token.kind;
      text = text_between token.kind text token.start token.end;
      place =
          place_at token.place;
    }

-- the lexemes that are still to come, and then the place of the text's end or a fault
pub record Stream : Type 0 where
  pub lexemes : List Lexeme
  pub ending : Result LexPlace LexFault

-- ---- tests of a lexeme's kind

-- the token is a word
abbrev pub is_word_kind : TokenKind → Bool
is_word_kind Word = true
is_word_kind _ = false

-- the token stands in quotes
abbrev pub is_quoted_kind : TokenKind → Bool
is_quoted_kind Quoted = true
is_quoted_kind _ = false

-- the token is an `=`
abbrev pub is_equals_kind : TokenKind → Bool
is_equals_kind Equals = true
is_equals_kind _ = false

-- the token is a `;`
abbrev pub is_semicolon_kind : TokenKind → Bool
is_semicolon_kind Semicolon = true
is_semicolon_kind _ = false

-- the lexeme is an `=`
unfoldable pub is_equals : Lexeme → Bool
is_equals lexeme = is_equals_kind lexeme.kind

-- the lexeme is a `;`
unfoldable pub is_semicolon : Lexeme → Bool
is_semicolon lexeme = is_semicolon_kind lexeme.kind

-- a word that is a bare name
unfoldable pub is_bare : Lexeme → Bool
is_bare lexeme = is_word_kind lexeme.kind && is_bare_name lexeme.text

-- a name is a bare name or stands in quotes
unfoldable pub is_name : Lexeme → Bool
is_name lexeme = is_quoted_kind lexeme.kind || is_bare lexeme

-- a value is a word or stands in quotes
unfoldable pub is_value : Lexeme → Bool
is_value lexeme = is_word_kind lexeme.kind || is_quoted_kind lexeme.kind

-- the word `toplevel`, in any case
unfoldable pub is_top_word : Lexeme → Bool
is_top_word lexeme = is_word_kind lexeme.kind && str_eq_ignore_ascii_case lexeme.text (codes "toplevel")

-- the name that a lexeme writes
abbrev pub placed : Lexeme → Placed
placed lexeme = record { name = lexeme.text; place = lexeme.place }

-- a word's or a quoted token's text has the form of a name
abbrev pub HasNameText : TokenKind → List ℕ → Type 0
HasNameText kind text = (is_word_kind kind || is_quoted_kind kind) ≡ true → is_name_text text ≡ true
