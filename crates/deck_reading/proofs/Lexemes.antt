-- The lexemes of a text that is a sequence of pieces.
use Rattle.std.proofs.Common.{◌≡◌, ℕ, ◌+◌, ◌-◌, true, false, List, [], ◌∷◌, ◌++◌, length, cond, drop, take, refl, sym}
use Rattle.std.proofs.Common.{ap, ◌∙◌, arith, append_assoc, length-append}
use Rattle.std.specs.Prelude.{◌==◌, map, slice_range, Ok}
use Rattle.std.proofs.lemmas.List.{append-nil, map-append, take_at}
use Rattle.std.proofs.lemmas.List.Prefix.{front_rest}
use Rattle.galileo_lexer.specs.{declared.spot.Spot.Spot, declared.token.TokenKind.TokenKind, Lexed.Lexed}
use Rattle.galileo_lexer.specs.declared.token.TokenKind.TheVariants.{Word, Quoted, Equals, Semicolon}
use Rattle.galileo_lexer.specs.Spot.{origin, place_of, step, walk}
use Rattle.galileo_lexer.specs.Pieces.{Piece, Blank, LineComment, BlockComment, AWord, AQuoted, AnEquals, ASemicolon}
use Rattle.galileo_lexer.specs.Pieces.{ArePieces, Reads, bytes_of, token_of, tokens_from}
use Rattle.galileo_tree.specs.Lexeme.{Lexeme, lexeme_of, place_at}
use Rattle.deck_reading.proofs.Pieces.{spelled}

-- ---- the lexemes of pieces that begin at a spot

abbrev pub lexeme_at : Spot → TokenKind → List ℕ → Lexeme
lexeme_at spot kind text = record { kind = kind; text = text; place = place_at (place_of spot) }

-- blanks and comments have none
abbrev pub lexemes_in : Spot → Piece → List Lexeme
lexemes_in spot (Blank byte) = []
lexemes_in spot (LineComment bytes) = []
lexemes_in spot (BlockComment bytes) = []
lexemes_in spot (AWord bytes) = lexeme_at spot Word bytes ∷ []
lexemes_in spot (AQuoted bytes) = lexeme_at spot Quoted bytes ∷ []
lexemes_in spot AnEquals = lexeme_at spot Equals (61 ∷ []) ∷ []
lexemes_in spot ASemicolon = lexeme_at spot Semicolon (59 ∷ []) ∷ []

abbrev pub lexemes_from : Spot → List Piece → List Lexeme
lexemes_from spot [] = []
lexemes_from spot (piece ∷ pieces) = lexemes_in spot piece ++ lexemes_from (walk spot (bytes_of piece)) pieces

-- ---- walks

walk-append : (spot : Spot) (a b : List ℕ) → walk spot (a ++ b) ≡ walk (walk spot a) b
walk-append spot [] b = refl
walk-append spot (x ∷ a) b = walk-append (step spot x) a b

step-offset : (spot : Spot) (byte : ℕ) → (step spot byte).offset ≡ spot.offset + 1
step-offset spot byte = elim (byte == 10) as
    (λ b. (cond b (let s : Spot =
    record { offset = spot.offset + 1; line = spot.line + 1; line_start = spot.offset + 1 } in s)
    (let s : Spot = record spot { offset = spot.offset + 1 } in s)).offset ≡ spot.offset + 1) [
      | true ↦ refl
      | false ↦
          refl
    ]

walk-offset : (spot : Spot) (bytes : List ℕ) → (walk spot bytes).offset ≡ spot.offset + length bytes
walk-offset spot [] = omega arith
walk-offset spot (byte ∷ bytes) = omega (arith, walk-offset (step spot byte) bytes, step-offset spot byte)

pub lexemes-append : (spot : Spot) (front back : List Piece) → lexemes_from spot
    (front ++ back) ≡ lexemes_from spot front ++ lexemes_from (walk spot (spelled front)) back
lexemes-append spot [] back = refl
lexemes-append spot (piece ∷ front) back =
    let then_spot = walk spot (bytes_of piece) in
    ap (λ l. lexemes_in spot piece ++ l) (lexemes-append then_spot front back)
    ∙ sym (append_assoc (lexemes_in spot piece) (lexemes_from then_spot front)
    (lexemes_from (walk then_spot (spelled front)) back))
    ∙ ap (λ s. (lexemes_in spot piece ++ lexemes_from then_spot front) ++ lexemes_from s back)
    (sym (walk-append spot (bytes_of piece) (spelled front)))

-- ---- the lexemes of the tokens

slice_is : {text : List ℕ} (front bytes back : List ℕ) {start : ℕ} (stop : ℕ) → text ≡ front ++ (bytes ++ back)
    → start ≡ length front
    → stop ≡ length front + length bytes
    → slice_range text start stop ≡ bytes
slice_is {text} front bytes back {start} stop is begins ends =
    let size : length bytes ≡ stop - start = omega arith in
    let rest : drop start text ≡ bytes ++ back = ap (λ n. drop n text) begins
    ∙ front_rest text front (bytes ++ back) is in
    ap (take (stop - start)) rest ∙ take_at bytes back (stop - start) size

module _ (text front : List ℕ) (spot : Spot) (there : spot.offset ≡ length front) where
  one_lexeme : (piece : Piece) (back : List ℕ) → text ≡ front ++ (bytes_of piece ++ back)
      → map (lexeme_of text) (token_of spot piece) ≡ lexemes_in spot piece
  one_lexeme (Blank byte) back is = refl
  one_lexeme (LineComment bytes) back is = refl
  one_lexeme (BlockComment bytes) back is = refl
  one_lexeme (AWord bytes) back is =
      ap (λ t. lexeme_at spot Word t ∷ [])
      (slice_is front bytes back (spot.offset + length bytes) is there (omega arith))
  one_lexeme (AQuoted bytes) back is =
      let inner : text ≡ (front ++ 34 ∷ []) ++ (bytes ++ (34 ∷ back)) =
      is ∙ ap (λ t. front ++ (34 ∷ t)) (append_assoc bytes (34 ∷ []) back)
      ∙ sym (append_assoc front (34 ∷ []) (bytes ++ (34 ∷ back))) in
      let long : length (front ++ 34 ∷ []) ≡ length front + 1 = length-append front (34 ∷ []) in
      ap (λ t. lexeme_at spot Quoted t ∷ [])
      (slice_is (front ++ 34 ∷ []) bytes (34 ∷ back) {start = spot.offset + 1} (spot.offset + length bytes + 2 - 1)
      inner
      (omega arith) (omega arith))
  one_lexeme AnEquals back is =
      ap (λ t. lexeme_at spot Equals t ∷ []) (slice_is front (61 ∷ []) back (spot.offset + 1) is there (omega arith))
  one_lexeme ASemicolon back is =
      ap (λ t. lexeme_at spot Semicolon t ∷ []) (slice_is front (59 ∷ []) back (spot.offset + 1) is there (omega arith))

lexemes_are : (text front : List ℕ) (spot : Spot) (pieces : List Piece) → spot.offset ≡ length front → text ≡ front
    ++ spelled pieces
    → map (lexeme_of text) (tokens_from spot pieces) ≡ lexemes_from spot pieces
lexemes_are text front spot [] there is = refl
lexemes_are text front spot (piece ∷ pieces) there is =
    let bytes = bytes_of piece in
    let then_spot = walk spot bytes in
    let then_there : then_spot.offset ≡ length (front ++ bytes) =
    omega (arith, walk-offset spot bytes, length-append front bytes) in
    map-append (lexeme_of text) (token_of spot piece) (tokens_from then_spot pieces)
    ∙ ap (λ l. l ++ map (lexeme_of text) (tokens_from then_spot pieces))
    (one_lexeme text front spot there piece (spelled pieces) is)
    ∙ ap (λ l. lexemes_in spot piece ++ l)
    (lexemes_are text (front ++ bytes) then_spot pieces then_there
    (is ∙ sym (append_assoc front bytes (spelled pieces))))

-- the lexemes of a text that pieces spell
pub lexemes_spelled : (pieces : List Piece) → map (lexeme_of (spelled pieces))
    (tokens_from origin pieces) ≡ lexemes_from origin pieces
lexemes_spelled pieces = lexemes_are (spelled pieces) [] origin pieces refl refl

-- what is read of it
abbrev pub lexed_as : List Piece → Lexed
lexed_as pieces = record { tokens = tokens_from origin pieces; ending = Ok (place_of (walk origin (spelled pieces))) }

pub is_lexed : (pieces : List Piece) → ArePieces pieces [] → Reads (spelled pieces) (lexed_as pieces)
is_lexed pieces are = (
  pieces,
  [],
  record { spelled = sym (append-nil (spelled pieces)); each = are; tokens = refl; ending = (refl, refl) },
)
