-- The reading runs over each piece, and stops at each fault.
use Rattle.std.proofs.Common.{◌≡◌, ℕ, ◌+◌, ◌-◌, ◌<◌, Bool, true, false, eqb, leb, List, [], ◌∷◌, ◌++◌, length, Result}
use Rattle.std.proofs.Common.{Ok, Err, sym, refl, ap, ◌∙◌, subst, arith, append_assoc, add-zero, le-leb}
use Rattle.std.specs.Prelude.{◌==◌, ◌&&◌, not}
use Rattle.std.specs.List.{list_all, flat_map}
use Rattle.std.proofs.lemmas.Bool.{eqb-true, eq-eqb, ne_eqb, lt-leb}
use Rattle.std.proofs.lemmas.List.{append-nil}
use Rattle.galileo_lexer.specs.{declared.spot.Spot.Spot, declared.token.LexPlace.LexPlace}
use Rattle.galileo_lexer.specs.{declared.token.LexFault.LexFault, declared.token.Token.Token}
use Rattle.galileo_lexer.specs.{declared.token.TokenKind.TokenKind, declared.token.TokenKind.TheVariants.Word}
use Rattle.galileo_lexer.specs.{declared.token.TokenKind.TheVariants.Quoted}
use Rattle.galileo_lexer.specs.declared.token.LexCode.TheVariants.{BadByte, EmptyName, NameTooLong}
use Rattle.galileo_lexer.specs.Bytes.{is_blank, is_word_byte, is_quotable, begins_with}
use Rattle.galileo_lexer.specs.Spot.{along, step, walk}
use Rattle.galileo_lexer.specs.Lexed.{Lexed, Mode, failed, Between, InQuotes, InLine, InBlock, lexed, name_ends}
use Rattle.galileo_lexer.specs.Lexed.{proceed, with_token, token_from}
use Rattle.galileo_lexer.specs.Pieces.{Piece, Blank, LineComment, BlockComment, AWord, AQuoted, AnEquals, ASemicolon}
use Rattle.galileo_lexer.specs.Pieces.{bytes_of, token_of, tokens_from, has_close, IsPiece, ArePieces, IsNameText}
use Rattle.galileo_lexer.specs.Pieces.{IsFault, bad_byte, bad_slash, bad_quoted, open_quote, open_comment, empty_name}
use Rattle.galileo_lexer.specs.Pieces.{long_word, long_quoted, EndsAs, IsReadAs, begins_nothing}
use Rattle.galileo_lexer.proofs.Bools.{and_left, and_right, or_left, or_right, not_true, not_false}
use Rattle.galileo_lexer.proofs.Walks.{walk-append, walk-offset, ends_starred, walk-along}
use Rattle.galileo_lexer.proofs.Steps.{word_from, word_step, word_first, word_no_feed}

-- tokens in front of what is read
abbrev pub with_tokens : List Token → Lexed → Lexed
with_tokens tokens read = record { tokens = tokens ++ read.tokens; ending = read.ending }

word_run : (start : Spot) (stop : ℕ) (bytes rest : List ℕ) → list_all is_word_byte bytes ≡ true →
    word_from start stop (bytes ++ rest) ≡ word_from start (stop + length bytes) rest
word_run start stop [] rest each = ap (λ n. word_from start n rest) (sym (add-zero stop))
word_run start stop (byte ∷ bytes) rest each =
    let there : stop + 1 + length bytes ≡ stop + length (byte ∷ bytes) = omega arith in
    word_step start stop byte (bytes ++ rest) (and_left _ _ each)
    ∙ word_run start (stop + 1) bytes rest (and_right _ each)
    ∙ ap (λ n. word_from start n rest) there

word_whole : (spot : Spot) (bytes rest : List ℕ) → 0 < length bytes → list_all is_word_byte bytes ≡ true →
    lexed Between spot (bytes ++ rest) ≡ word_from spot (spot.offset + length bytes) rest
word_whole spot [] rest some each = absurd (omega arith)
word_whole spot (byte ∷ bytes) rest some each =
    let there : spot.offset + 1 + length bytes ≡ spot.offset + length (byte ∷ bytes) = omega arith in
    word_first spot byte (bytes ++ rest) (and_left _ _ each)
    ∙ word_run spot (spot.offset + 1) bytes rest (and_right _ each)
    ∙ ap (λ n. word_from spot n rest) there

word_over : (start : Spot) (stop : ℕ) (rest : List ℕ) → begins_with is_word_byte rest ≡ false →
    word_from start stop rest ≡ proceed (name_ends Word start stop (stop - start.offset))
    (λ mode. lexed mode (along start stop) rest)
word_over start stop rest over = rw over refl

quotable_no_quote : (byte : ℕ) → is_quotable byte ≡ true → eqb byte 34 ≡ false
unfolding is_quotable
quotable_no_quote byte quotable = grind arith

quoted_run : (start at : Spot) (bytes rest : List ℕ) → list_all is_quotable bytes ≡ true →
    lexed (InQuotes start) at (bytes ++ rest) ≡ lexed (InQuotes start) (walk at bytes) rest
quoted_run start at [] rest each = refl
quoted_run start at (byte ∷ bytes) rest each =
    let quotable = and_left _ _ each in
    rw (quotable_no_quote byte quotable, quotable) (quoted_run start (step at byte) bytes rest (and_right _ each))

line_run : (at : Spot) (bytes rest : List ℕ) → list_all (λ byte. not (byte == 10)) bytes ≡ true →
    lexed InLine at (bytes ++ rest) ≡ lexed InLine (walk at bytes) rest
line_run at [] rest each = refl
line_run at (byte ∷ bytes) rest each =
    rw (not_true (byte == 10) (and_left _ _ each)) (line_run (along at (at.offset + 1)) bytes rest (and_right _ each))

line_stop : (at : Spot) (rest : List ℕ) → begins_with (λ byte. not (byte == 10)) rest ≡ false →
    lexed InLine at rest ≡ lexed Between at rest
unfolding is_blank
line_stop at [] over = refl
line_stop at (byte ∷ rest) over =
    let feed : byte ≡ 10 = eqb-true byte 10 (not_false (byte == 10) over) in
    subst (λ b. lexed InLine at (b ∷ rest) ≡ lexed Between at (b ∷ rest)) (sym feed) refl

block_run : (start at : Spot) (starred : Bool) (bytes rest : List ℕ) → has_close bytes ≡ false →
    (starred && begins_with (λ next. next == 47) bytes) ≡ false →
    lexed (InBlock start starred) at (bytes ++ rest)
    ≡ lexed (InBlock start (ends_starred starred bytes)) (walk at bytes) rest
block_run start at starred [] rest open_still apart = refl
block_run start at starred (byte ∷ bytes) rest open_still apart =
    rw apart (block_run start (step at byte) (byte == 42) bytes rest (or_right _ open_still) (or_left _ _ open_still))

block_close : (start at : Spot) (starred : Bool) (rest : List ℕ) →
    lexed (InBlock start starred) at (42 ∷ 47 ∷ rest) ≡ lexed Between (walk at (42 ∷ 47 ∷ [])) rest
block_close start at true rest = refl
block_close start at false rest = refl

blank_runs : (spot : Spot) (byte : ℕ) (text : List ℕ) → is_blank byte ≡ true →
    lexed Between spot (byte ∷ text) ≡ lexed Between (step spot byte) text
blank_runs spot byte text blank = rw blank refl

-- behind the opening quote
after_quote : (spot : Spot) (rest : List ℕ) → lexed Between spot (34 ∷ rest) ≡ lexed (InQuotes spot) (step spot 34) rest
unfolding is_blank
after_quote spot rest = refl

quoted_whole : (spot : Spot) (bytes rest : List ℕ) → list_all is_quotable bytes ≡ true →
    lexed Between spot (34 ∷ bytes ++ rest) ≡ lexed (InQuotes spot) (walk spot (34 ∷ bytes)) rest
quoted_whole spot bytes rest each = after_quote spot (bytes ++ rest) ∙ quoted_run spot (step spot 34) bytes rest each

-- a closing quote behind a text that isn't empty
closed : (spot : Spot) (bytes rest : List ℕ) → 0 < length bytes →
    lexed (InQuotes spot) (walk spot (34 ∷ bytes)) (34 ∷ rest)
    ≡ proceed (name_ends Quoted spot (spot.offset + length bytes + 2) (length bytes))
    (λ mode. lexed mode (walk spot (34 ∷ bytes ++ 34 ∷ [])) rest)
closed spot bytes rest some =
    let at = walk spot (34 ∷ bytes) in
    let far : at.offset ≡ spot.offset + length (34 ∷ bytes) = walk-offset spot (34 ∷ bytes) in
    let apart : eqb at.offset (spot.offset + 1) ≡ false = ne_eqb _ _ (λ same. omega arith) in
    let stop : at.offset + 1 ≡ spot.offset + length bytes + 2 = omega arith in
    let size : at.offset - (spot.offset + 1) ≡ length bytes = omega arith in
    rw apart
    (ap (λ n. proceed (name_ends Quoted spot n (at.offset - (spot.offset + 1))) (λ mode. lexed mode (step at 34) rest))
    stop
    ∙ ap (λ n. proceed (name_ends Quoted spot (spot.offset + length bytes + 2) n)
    (λ mode. lexed mode (step at 34) rest)) size
    ∙ ap (λ s. proceed (name_ends Quoted spot (spot.offset + length bytes + 2) (length bytes))
    (λ mode. lexed mode s rest)) (sym (walk-append (step spot 34) bytes (34 ∷ []))))

quoted_runs : (spot : Spot) {bytes : List ℕ} (text : List ℕ) → IsNameText is_quotable bytes →
    lexed Between spot ((34 ∷ bytes ++ 34 ∷ []) ++ text)
    ≡ with_token (token_from Quoted spot (spot.offset + length bytes + 2))
    (lexed Between (walk spot (34 ∷ bytes ++ 34 ∷ [])) text)
quoted_runs spot {bytes} text is =
    let few : leb (length bytes) 255 ≡ true = le-leb _ _ is.few in
    ap (λ t. lexed Between spot (34 ∷ t)) (append_assoc bytes (34 ∷ []) text)
    ∙ quoted_whole spot bytes (34 ∷ text) is.each
    ∙ closed spot bytes text is.some
    ∙ rw few refl

-- a piece is read to its end, and gives its token
pub piece_runs : (spot : Spot) (piece : Piece) (text : List ℕ) → IsPiece piece text →
    lexed Between spot (bytes_of piece ++ text) ≡ with_tokens (token_of spot piece)
    (lexed Between (walk spot (bytes_of piece)) text)
unfolding is_blank
piece_runs spot (Blank byte) text is = blank_runs spot byte text is
piece_runs spot (LineComment bytes) text is =
    line_run (walk spot (47 ∷ 47 ∷ [])) bytes text is.0 ∙ line_stop (walk spot (47 ∷ 47 ∷ bytes)) text is.1
piece_runs spot (BlockComment bytes) text is =
    let inside = walk spot (47 ∷ 42 ∷ []) in
    ap (λ t. lexed (InBlock spot false) inside t) (append_assoc bytes (42 ∷ 47 ∷ []) text)
    ∙ block_run spot inside false bytes (42 ∷ 47 ∷ text) is refl
    ∙ block_close spot (walk inside bytes) (ends_starred false bytes) text
    ∙ ap (λ s. lexed Between s text) (sym (walk-append inside bytes (42 ∷ 47 ∷ [])))
piece_runs spot (AWord bytes) text is =
    let stop = spot.offset + length bytes in
    let few : leb (stop - spot.offset) 255 ≡ true = le-leb _ _ (omega (arith, is.0.few)) in
    word_whole spot bytes text is.0.some is.0.each
    ∙ word_over spot stop text is.1
    ∙ rw few (ap (λ s. with_token (token_from Word spot stop) (lexed Between s text))
    (sym (walk-along spot bytes (λ byte. word_no_feed byte) is.0.each)))
piece_runs spot (AQuoted bytes) text is = quoted_runs spot text is
piece_runs spot AnEquals text is = refl
piece_runs spot ASemicolon text is = refl

-- a bad byte
bad_runs : (spot : Spot) (byte : ℕ) (more : List ℕ) → begins_nothing byte ≡ true →
    lexed Between spot (byte ∷ more) ≡ failed BadByte spot
bad_runs spot byte more bad =
    let a = not_true (is_blank byte) (and_left _ _ (and_left _ _ (and_left _ _ (and_left _ _ (and_left _ _ bad))))) in
    let b =
    not_true (byte == 47) (and_right (not (is_blank byte))
    (and_left _ _ (and_left _ _ (and_left _ _ (and_left _ _ bad))))) in
    let c =
    not_true (byte == 34) (and_right (not (is_blank byte) && not (byte == 47))
    (and_left _ _ (and_left _ _ (and_left _ _ bad)))) in
    let d =
    not_true (byte == 61) (and_right ((not (is_blank byte) && not (byte == 47)) && not (byte == 34))
    (and_left _ _ (and_left _ _ bad))) in
    let e =
    not_true (byte == 59) (and_right (((not (is_blank byte) && not (byte == 47)) && not (byte == 34))
    && not (byte == 61)) (and_left _ _ bad)) in
    let f =
    not_true (is_word_byte byte) (and_right ((((not (is_blank byte) && not (byte == 47)) && not (byte == 34))
    && not (byte == 61)) && not (byte == 59)) bad) in
    rw (a, b, c, d, e, f) refl

slash_runs : (spot : Spot) (more : List ℕ) → begins_with (λ byte. byte == 47) more ≡ false
    → begins_with (λ byte. byte == 42) more ≡ false →
    lexed Between spot (47 ∷ more) ≡ failed BadByte spot
unfolding is_blank
slash_runs spot more no_slash no_star = rw (no_slash, no_star) refl

-- a byte that may not stand between quotes
quoted_stops : (start at : Spot) (byte : ℕ) (more : List ℕ) → is_quotable byte ≡ false → eqb byte 34 ≡ false →
    lexed (InQuotes start) at (byte ∷ more) ≡ failed BadByte at
quoted_stops start at byte more bad no_quote = rw (no_quote, bad) refl

long_stops : (kind : TokenKind) (start : Spot) (stop size : ℕ) (next : Mode → Lexed) → 255 < size →
    proceed (name_ends kind start stop size) next ≡ failed NameTooLong start
long_stops kind start stop size next long =
    let many : leb size 255 ≡ false = lt-leb _ _ long in rw many refl

empty_runs : (spot : Spot) (more : List ℕ) → lexed Between spot (34 ∷ 34 ∷ more) ≡ failed EmptyName spot
unfolding is_blank
empty_runs spot more =
    let here : eqb (step spot 34).offset (spot.offset + 1) ≡ true = eq-eqb _ _ refl in
    after_quote spot (34 ∷ more) ∙ rw here refl

-- each fault is what is read
fault_runs : {spot : Spot} {rest : List ℕ} {fault : LexFault} → IsFault spot rest fault →
    lexed Between spot rest ≡ record { tokens = []; ending = Err fault }
unfolding is_blank
fault_runs {spot} (bad_byte byte more text bad is) = rw (text, is) (bad_runs spot byte more bad)
fault_runs {spot} (bad_slash more text no_slash no_star is) = rw (text, is) (slash_runs spot more no_slash no_star)
fault_runs {spot} (bad_quoted bytes byte more text each bad no_quote is) =
    rw (text, is) (quoted_whole spot bytes (byte ∷ more) each
    ∙ quoted_stops spot (walk spot (34 ∷ bytes)) byte more bad no_quote)
fault_runs {spot} (open_quote bytes text each is) =
    rw (text, is) (ap (λ t. lexed Between spot (34 ∷ t)) (sym (append-nil bytes)) ∙ quoted_whole spot bytes [] each)
fault_runs {spot} (open_comment bytes text unclosed is) =
    rw (text, is) (ap (λ t. lexed Between spot (47 ∷ 42 ∷ t)) (sym (append-nil bytes))
    ∙ block_run spot (walk spot (47 ∷ 42 ∷ [])) false bytes [] unclosed refl)
fault_runs {spot} (empty_name more text is) = rw (text, is) (empty_runs spot more)
fault_runs {spot} (long_word bytes more text each over long is) =
    let stop = spot.offset + length bytes in
    rw (text, is)
    (word_whole spot bytes more (omega arith) each
    ∙ word_over spot stop more over
    ∙ long_stops Word spot stop (stop - spot.offset) (λ mode. lexed mode (along spot stop) more) (omega arith))
fault_runs {spot} (long_quoted bytes more text each long is) =
    rw (text, is)
    (quoted_whole spot bytes (34 ∷ more) each
    ∙ closed spot bytes more (omega arith)
    ∙ long_stops Quoted spot (spot.offset + length bytes + 2) (length bytes)
    (λ mode. lexed mode (walk spot (34 ∷ bytes ++ 34 ∷ [])) more) long)

-- so is the end
ending_runs : (spot : Spot) (rest : List ℕ) (ending : Result LexPlace LexFault) → EndsAs spot rest ending →
    lexed Between spot rest ≡ record { tokens = []; ending = ending }
ending_runs spot rest (Ok place) ends = rw (ends.0, ends.1) refl
ending_runs spot rest (Err fault) ends = fault_runs ends

regroup : (a b : List Token) (read : Lexed) → with_tokens a (with_tokens b read) ≡ with_tokens (a ++ b) read
regroup a b read =
    ap (λ tokens. let r : Lexed = record { tokens = tokens; ending = read.ending } in r)
    (sym (append_assoc a b read.tokens))

-- pieces are read one after the other
pieces_run : (spot : Spot) (pieces : List Piece) (rest : List ℕ) → ArePieces pieces rest →
    lexed Between spot (flat_map bytes_of pieces ++ rest)
    ≡ with_tokens (tokens_from spot pieces) (lexed Between (walk spot (flat_map bytes_of pieces)) rest)
pieces_run spot [] rest each = refl
pieces_run spot (piece ∷ pieces) rest each =
    let bytes = bytes_of piece in
    let more = flat_map bytes_of pieces in
    let tokens = token_of spot piece in
    let then_spot = walk spot bytes in
    ap (lexed Between spot) (append_assoc bytes more rest)
    ∙ piece_runs spot piece (more ++ rest) each.0
    ∙ ap (with_tokens tokens) (pieces_run then_spot pieces rest each.1)
    ∙ ap (λ s. with_tokens tokens (with_tokens (tokens_from then_spot pieces) (lexed Between s rest)))
    (sym (walk-append spot bytes more))
    ∙ regroup tokens (tokens_from then_spot pieces) (lexed Between (walk spot (bytes ++ more)) rest)

-- a text that is read in this way is read in no other
pub only : {spot : Spot} {text : List ℕ} {pieces : List Piece} {rest : List ℕ} {read : Lexed} →
    IsReadAs spot text pieces rest read → lexed Between spot text ≡ read
only {spot} {pieces} {rest} {read} is =
    ap (lexed Between spot) is.spelled
    ∙ pieces_run spot pieces rest is.each
    ∙ ap (with_tokens (tokens_from spot pieces)) (ending_runs (walk spot (flat_map bytes_of pieces)) rest read.ending
    is.ending)
    ∙ ap (λ tokens. let r : Lexed = record { tokens = tokens; ending = read.ending } in r)
    (append-nil (tokens_from spot pieces) ∙ sym is.tokens)
