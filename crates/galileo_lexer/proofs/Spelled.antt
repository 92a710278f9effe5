-- Each token of a text lies in it and is spelled there.
use Rattle.std.proofs.Common.{◌≡◌, ℕ, ◌+◌, ◌-◌, ◌<◌, List, [], ◌∷◌, ◌++◌, length, sym, refl, ap, ◌∙◌, subst, arith}
use Rattle.std.proofs.Common.{append_assoc, length-append}
use Rattle.std.specs.{Prelude.slice_range, Prelude.take, List.flat_map, List.AllByRecursion}
use Rattle.std.proofs.lemmas.List.{drop_at, take_at}
use Rattle.galileo_lexer.specs.{declared.spot.Spot.Spot, declared.token.Token.Token, declared.token.TokenKind.TokenKind}
use Rattle.galileo_lexer.specs.{Lexed.tokens_of, Lexed.token_from, Spelling.Spells, Spelling.IsSpelled}
use Rattle.galileo_lexer.specs.declared.token.TokenKind.TheVariants.{Word, Quoted, Equals, Semicolon}
use Rattle.galileo_lexer.specs.Spot.{origin, walk, place_of, place_behind}
use Rattle.galileo_lexer.specs.Pieces.{Piece, Blank, LineComment, BlockComment, AWord, AQuoted, AnEquals, ASemicolon}
use Rattle.galileo_lexer.specs.Pieces.{bytes_of, token_of, tokens_from, IsPiece, ArePieces}
use Rattle.galileo_lexer.proofs.{Walks.walk-append, Walks.walk-offset, Sound.reads}

-- the bytes in the middle
middle : (front bytes rest : List ℕ) → slice_range (front ++ bytes ++ rest) (length front) (length front + length bytes)
    ≡ bytes
middle front bytes rest =
    rw (append_assoc front bytes rest, drop_at front (bytes ++ rest) (length front) refl)
    (take_at bytes rest (length front + length bytes - length front) (omega arith))

reached : {spot : Spot} (front : List ℕ) → spot ≡ walk origin front → spot.offset ≡ length front
reached front walked = ap (λ (s : Spot). s.offset) walked ∙ walk-offset origin front ∙ omega arith

-- a token whose bytes stand behind these
here : (front bytes rest : List ℕ) {text : List ℕ} (kind : TokenKind) {spot : Spot} (stop : ℕ)
    → text ≡ front ++ bytes ++ rest →
    spot ≡ walk origin front → stop ≡ spot.offset + length bytes → 0 < length bytes → Spells kind bytes →
    IsSpelled text (token_from kind spot stop)
here front bytes rest {text} kind {spot} stop is walked ends some spells =
    let at : spot.offset ≡ length front = reached front walked in
    let before : take spot.offset text ≡ front =
    ap (take spot.offset) (is ∙ append_assoc front bytes rest)
    ∙ take_at front (bytes ++ rest) spot.offset (sym at) in
    let whole : length text ≡ length front + length bytes + length rest =
    ap length is ∙ length-append (front ++ bytes) rest ∙ ap (λ n. n + length rest) (length-append front bytes) in
    record {
      some = omega arith;
      in_text = omega arith;
      spelling =
          subst (Spells kind) (sym (ap (λ t. slice_range t spot.offset stop) is
          ∙ ap (λ i. slice_range (front ++ bytes ++ rest) i stop) at
          ∙ ap (slice_range (front ++ bytes ++ rest) (length front)) (ends ∙ ap (λ i. i + length bytes) at)
          ∙ middle front bytes rest)) spells;
      place = ap place_of walked ∙ sym (ap place_behind before);
    }

piece_spelled : {text : List ℕ} (front rest : List ℕ) {spot : Spot} (piece : Piece)
    → text ≡ front ++ bytes_of piece ++ rest →
    spot ≡ walk origin front → IsPiece piece rest → (more : List Token) → AllByRecursion (IsSpelled text) more →
    AllByRecursion (IsSpelled text) (token_of spot piece ++ more)
piece_spelled front rest (Blank byte) is at piece more each = each
piece_spelled front rest (LineComment bytes) is at piece more each = each
piece_spelled front rest (BlockComment bytes) is at piece more each = each
piece_spelled front rest {spot} (AWord bytes) is at piece more each =
    (here front bytes rest Word (spot.offset + length bytes) is at refl piece.0.some piece.0, each)
piece_spelled front rest {spot} (AQuoted bytes) is at piece more each =
    let size : length (34 ∷ bytes ++ 34 ∷ []) ≡ length bytes + 2 = omega (arith, length-append bytes (34 ∷ [])) in (
      here front (34 ∷ bytes ++ 34 ∷ []) rest Quoted (spot.offset + length bytes + 2) is at (omega arith)
          (omega arith) (bytes, piece, refl),
      each,
    )
piece_spelled front rest {spot} AnEquals is at piece more each =
    (here front (61 ∷ []) rest Equals (spot.offset + 1) is at refl (omega arith) refl, each)
piece_spelled front rest {spot} ASemicolon is at piece more each =
    (here front (59 ∷ []) rest Semicolon (spot.offset + 1) is at refl (omega arith) refl, each)

pieces_spelled : {text : List ℕ} (front rest : List ℕ) (spot : Spot) (pieces : List Piece)
    → text ≡ front ++ (flat_map bytes_of pieces ++ rest) →
    spot ≡ walk origin front → ArePieces pieces rest → AllByRecursion (IsSpelled text) (tokens_from spot pieces)
pieces_spelled front rest spot [] is at each = tt
pieces_spelled {text} front rest spot (piece ∷ pieces) is at each =
    let bytes = bytes_of piece in
    let more = flat_map bytes_of pieces in
    let split : text ≡ front ++ bytes ++ (more ++ rest) =
    is ∙ ap (λ t. front ++ t) (append_assoc bytes more rest) ∙ sym (append_assoc front bytes (more ++ rest)) in
    let behind : walk spot bytes ≡ walk origin (front ++ bytes) =
    ap (λ s. walk s bytes) at ∙ sym (walk-append origin front bytes) in
    piece_spelled front (more ++ rest) piece split at each.0 (tokens_from (walk spot bytes) pieces)
    (pieces_spelled (front ++ bytes) rest (walk spot bytes) pieces split behind each.1)

pub spelled : (text : List ℕ) → AllByRecursion (IsSpelled text) (tokens_of text).tokens
spelled text =
    let read = reads origin text in
    subst (AllByRecursion (IsSpelled text)) (sym read.2.tokens)
    (pieces_spelled [] read.1 origin read.0 read.2.spelled refl read.2.each)
