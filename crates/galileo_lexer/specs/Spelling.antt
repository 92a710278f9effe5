-- The bytes of a token, in the text that it lies in.
use Rattle.std.specs.Prelude.{◌≡◌, ℕ, ◌<◌, ◌≤◌, List, [], ◌∷◌, ◌++◌, length, slice_range, take}
use Rattle.galileo_lexer.specs.{declared.token.Token.Token, declared.token.TokenKind.TokenKind, Bytes.is_word_byte}
use Rattle.galileo_lexer.specs.{Bytes.is_quotable, Pieces.IsNameText, Spot.place_behind}
use Rattle.galileo_lexer.specs.declared.token.TokenKind.TheVariants.{Word, Quoted, Equals, Semicolon}

-- the bytes of a token
abbrev pub token_bytes : List ℕ → Token → List ℕ
token_bytes text token = slice_range text token.start token.end

-- how a token of each kind is spelled
abbrev pub Spells : TokenKind → List ℕ → Type 0
Spells Word bytes = IsNameText is_word_byte bytes
Spells Quoted bytes = (name : List ℕ) × IsNameText is_quotable name × (bytes ≡ 34 ∷ name ++ 34 ∷ [])
Spells Equals bytes = bytes ≡ 61 ∷ []
Spells Semicolon bytes = bytes ≡ 59 ∷ []

-- the token lies in the text and is spelled there, and its place is that of its first byte
pub record IsSpelled (text : List ℕ) (token : Token) : Type 0 where
  pub some : token.start < token.end
  pub in_text : token.end ≤ length text
  pub spelling : Spells token.kind (token_bytes text token)
  pub place : token.place ≡ place_behind (take token.start text)
