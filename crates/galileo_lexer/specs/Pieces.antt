-- The text as a sequence of pieces: what the notation says of blanks, comments and token spellings, with no
-- reading from left to right.
use Rattle.std.specs.Prelude.{◌≡◌, ℕ, ◌+◌, ◌<◌, ◌≤◌, Bool, true, false, ◌&&◌, ◌||◌, ◌==◌, not, List, [], ◌∷◌, ◌++◌}
use Rattle.std.specs.Prelude.{length, Result, Ok, Err}
use Rattle.std.specs.List.{flat_map, list_all}
use Rattle.deck_limits.specs.declared.TheConstants.{LONGEST_NAME}
use Rattle.galileo_lexer.specs.{declared.spot.Spot.Spot, declared.token.Token.Token, declared.token.LexFault.LexFault}
use Rattle.galileo_lexer.specs.{declared.token.LexPlace.LexPlace, Lexed.Lexed, Lexed.token_from, Found.fault_at}
use Rattle.galileo_lexer.specs.declared.token.TokenKind.TheVariants.{Word, Quoted, Equals, Semicolon}
use Rattle.galileo_lexer.specs.declared.token.LexCode.TheVariants.{BadByte, OpenQuote, OpenComment, EmptyName}
use Rattle.galileo_lexer.specs.declared.token.LexCode.TheVariants.{NameTooLong}
use Rattle.galileo_lexer.specs.Bytes.{is_blank, is_word_byte, is_quotable, begins_with}
use Rattle.galileo_lexer.specs.Spot.{origin, walk, place_of}

-- a blank, a comment or a token of the text, by its bytes
pub data Piece : Type 0 where
  Blank : ℕ → Piece
  -- the bytes behind `//`
  LineComment : List ℕ → Piece
  -- the bytes between `/*` and `*/`
  BlockComment : List ℕ → Piece
  AWord : List ℕ → Piece
  -- the bytes between the quotes
  AQuoted : List ℕ → Piece
  AnEquals : Piece
  ASemicolon : Piece

-- the bytes of a piece
abbrev pub bytes_of : Piece → List ℕ
bytes_of (Blank byte) = byte ∷ []
bytes_of (LineComment bytes) = 47 ∷ 47 ∷ bytes
bytes_of (BlockComment bytes) = 47 ∷ 42 ∷ bytes ++ 42 ∷ 47 ∷ []
bytes_of (AWord bytes) = bytes
bytes_of (AQuoted bytes) = 34 ∷ bytes ++ 34 ∷ []
bytes_of AnEquals = 61 ∷ []
bytes_of ASemicolon = 59 ∷ []

-- a star stands there with a slash right behind it
abbrev pub has_close : List ℕ → Bool
has_close [] = false
has_close (byte ∷ bytes) = ((byte == 42) && begins_with (λ next. next == 47) bytes) || has_close bytes

-- the text of a name has 1 to 255 bytes, each of them allowed
pub record IsNameText (allowed : ℕ → Bool) (bytes : List ℕ) : Type 0 where
  pub some : 0 < length bytes
  pub few : length bytes ≤ LONGEST_NAME
  pub each : list_all allowed bytes ≡ true

-- A piece with what follows it. A word ends where no byte of a word follows, a comment of a line in front of a
-- line feed or at the end, and a comment in `/*` and `*/` ends at its first `*/`.
abbrev pub IsPiece : Piece → List ℕ → Type 0
IsPiece (Blank byte) rest = is_blank byte ≡ true
IsPiece (LineComment bytes) rest =
    (list_all (λ byte. not (byte == 10)) bytes ≡ true) × (begins_with (λ byte. not (byte == 10)) rest ≡ false)
IsPiece (BlockComment bytes) rest = has_close bytes ≡ false
IsPiece (AWord bytes) rest = IsNameText is_word_byte bytes × (begins_with is_word_byte rest ≡ false)
IsPiece (AQuoted bytes) rest = IsNameText is_quotable bytes
IsPiece AnEquals rest = Unit {0}
IsPiece ASemicolon rest = Unit {0}

-- each is a piece with what follows it, down to the rest
abbrev pub ArePieces : List Piece → List ℕ → Type 0
ArePieces [] rest = Unit {0}
ArePieces (piece ∷ pieces) rest = IsPiece piece (flat_map bytes_of pieces ++ rest) × ArePieces pieces rest

-- the token of a piece that begins at a spot; blanks and comments are none
abbrev pub token_of : Spot → Piece → List Token
token_of spot (Blank byte) = []
token_of spot (LineComment bytes) = []
token_of spot (BlockComment bytes) = []
token_of spot (AWord bytes) = token_from Word spot (spot.offset + length bytes) ∷ []
token_of spot (AQuoted bytes) = token_from Quoted spot (spot.offset + length bytes + 2) ∷ []
token_of spot AnEquals = token_from Equals spot (spot.offset + 1) ∷ []
token_of spot ASemicolon = token_from Semicolon spot (spot.offset + 1) ∷ []

-- the tokens of pieces that begin at a spot, with their places
abbrev pub tokens_from : Spot → List Piece → List Token
tokens_from spot [] = []
tokens_from spot (piece ∷ pieces) = token_of spot piece ++ tokens_from (walk spot (bytes_of piece)) pieces

-- no blank, no slash, no quote, no `=`, no `;` and no byte of a word
abbrev pub begins_nothing : ℕ → Bool
begins_nothing byte =
    not (is_blank byte) && not (byte == 47) && not (byte == 34) && not (byte == 61) && not (byte == 59)
    && not (is_word_byte byte)

-- The faults of a rest where a piece is to begin at a spot.
pub data IsFault (spot : Spot) (rest : List ℕ) (fault : LexFault) : Type 0 where
  -- a byte that is no blank and begins no token and no comment
  bad_byte : (byte : ℕ) (more : List ℕ) → rest ≡ byte ∷ more → begins_nothing byte ≡ true →
      fault ≡ fault_at BadByte spot → IsFault spot rest fault
  -- a slash with no slash and no star behind it
  bad_slash : (more : List ℕ) → rest ≡ 47 ∷ more → begins_with (λ byte. byte == 47) more ≡ false →
      begins_with (λ byte. byte == 42) more ≡ false → fault ≡ fault_at BadByte spot → IsFault spot rest fault
  -- a byte that may not stand between quotes
  bad_quoted : (bytes : List ℕ) (byte : ℕ) (more : List ℕ) → rest ≡ 34 ∷ bytes ++ byte ∷ more →
      list_all is_quotable bytes ≡ true → is_quotable byte ≡ false → (byte == 34) ≡ false →
      fault ≡ fault_at BadByte (walk spot (34 ∷ bytes)) → IsFault spot rest fault
  -- the text ends between quotes
  open_quote : (bytes : List ℕ) → rest ≡ 34 ∷ bytes → list_all is_quotable bytes ≡ true →
      fault ≡ fault_at OpenQuote spot → IsFault spot rest fault
  -- the text ends in a comment
  open_comment : (bytes : List ℕ) → rest ≡ 47 ∷ 42 ∷ bytes → has_close bytes ≡ false →
      fault ≡ fault_at OpenComment spot → IsFault spot rest fault
  -- nothing stands between the quotes
  empty_name : (more : List ℕ) → rest ≡ 34 ∷ 34 ∷ more → fault ≡ fault_at EmptyName spot → IsFault spot rest fault
  -- a word of more than 255 bytes
  long_word : (bytes more : List ℕ) → rest ≡ bytes ++ more → list_all is_word_byte bytes ≡ true →
      begins_with is_word_byte more ≡ false → LONGEST_NAME < length bytes → fault ≡ fault_at NameTooLong spot
      → IsFault spot rest fault
  -- a quoted text of more than 255 bytes
  long_quoted : (bytes more : List ℕ) → rest ≡ 34 ∷ bytes ++ 34 ∷ more → list_all is_quotable bytes ≡ true →
      LONGEST_NAME < length bytes → fault ≡ fault_at NameTooLong spot → IsFault spot rest fault

-- the reading ends as the rest behind the pieces says: at the end of the text, or with the fault of the rest
abbrev pub EndsAs : Spot → List ℕ → Result LexPlace LexFault → Type 0
EndsAs spot rest (Ok place) = (rest ≡ []) × (place ≡ place_of spot)
EndsAs spot rest (Err fault) = IsFault spot rest fault

-- From a spot on the text is these pieces and then this rest. The tokens are the pieces' tokens, and the rest is
-- empty, or begins with a fault.
pub record IsReadAs (spot : Spot) (text : List ℕ) (pieces : List Piece) (rest : List ℕ) (read : Lexed) : Type 0 where
  pub spelled : text ≡ flat_map bytes_of pieces ++ rest
  pub each : ArePieces pieces rest
  pub tokens : read.tokens ≡ tokens_from spot pieces
  pub ending : EndsAs (walk spot (flat_map bytes_of pieces)) rest read.ending

-- the text is read as some pieces
abbrev pub ReadsFrom : Spot → List ℕ → Lexed → Type 0
ReadsFrom spot text read = (pieces : List Piece) × (rest : List ℕ) × IsReadAs spot text pieces rest read

-- The reading of a whole text: the tokens of all pieces, or the tokens up to the first fault, and that fault.
abbrev pub Reads : List ℕ → Lexed → Type 0
Reads text read = ReadsFrom origin text read
