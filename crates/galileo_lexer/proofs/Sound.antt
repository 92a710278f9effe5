-- What is read from left to right is a sequence of pieces, and its fault is a fault of the rest.
use Rattle.std.proofs.Common.{◌≡◌, ℕ, zero, suc, ◌+◌, ◌-◌, ◌<◌, ◌≤◌, Bool, true, false, cond, eqb, List, [], ◌∷◌, ◌++◌}
use Rattle.std.proofs.Common.{length, Err, sym, refl, ap, ◌∙◌, subst, arith, append_assoc, length-append}
use Rattle.std.specs.Prelude.{◌==◌, ◌&&◌, not, nat_le}
use Rattle.std.specs.List.{list_all, flat_map}
use Rattle.std.proofs.lemmas.Bool.{eqb-true, eqb-false, leb-true, leb-false}
use Rattle.std.proofs.lemmas.List.{append-nil}
use Rattle.galileo_lexer.specs.{declared.spot.Spot.Spot, declared.token.LexFault.LexFault}
use Rattle.galileo_lexer.specs.{declared.token.TokenKind.TheVariants.Word, declared.token.TokenKind.TheVariants.Quoted}
use Rattle.galileo_lexer.specs.{Spot.step, Spot.walk, Found.fault_at}
use Rattle.galileo_lexer.specs.declared.token.LexCode.TheVariants.{BadByte, OpenQuote, OpenComment, EmptyName}
use Rattle.galileo_lexer.specs.Bytes.{is_blank, is_word_byte, is_quotable, begins_with}
use Rattle.galileo_lexer.specs.Lexed.{Lexed, Mode, Between, InWord, InQuotes, InLine, Opening, InBlock, Go, lexed}
use Rattle.galileo_lexer.specs.Lexed.{in_word, at_slash, at_close, proceed, with_token, token_from, finished, failed}
use Rattle.galileo_lexer.specs.Pieces.{Piece, Blank, LineComment, BlockComment, AWord, AQuoted, AnEquals, ASemicolon}
use Rattle.galileo_lexer.specs.Pieces.{bytes_of, token_of, has_close, IsPiece, IsFault, bad_byte, bad_slash, bad_quoted}
use Rattle.galileo_lexer.specs.Pieces.{open_quote, open_comment, empty_name, long_word, long_quoted, EndsAs, ReadsFrom}
use Rattle.galileo_lexer.proofs.Bools.{by_test, and_left, and_right, not_false}
use Rattle.galileo_lexer.proofs.Walks.{walk-append, walk-offset, ends_starred, list_all-push, push-append}
use Rattle.galileo_lexer.proofs.Walks.{has_close-push, has_close-front, ends_starred-push, star_last}
use Rattle.galileo_lexer.proofs.Runs.{with_tokens}

-- a piece in front of what is read
prepend : (spot : Spot) (piece : Piece) {text : List ℕ} {read : Lexed} → IsPiece piece text →
    ReadsFrom (walk spot (bytes_of piece)) text read →
    ReadsFrom spot (bytes_of piece ++ text) (with_tokens (token_of spot piece) read)
prepend spot piece {read} is reads =
    let pieces = reads.0 in
    let rest = reads.1 in
    let as_read = reads.2 in
    let bytes = bytes_of piece in (
      piece ∷ pieces,
      rest,
      record {
        spelled = ap (λ t. bytes ++ t) as_read.spelled ∙ sym (append_assoc bytes (flat_map bytes_of pieces) rest);
        each = (subst (IsPiece piece) as_read.spelled is, as_read.each);
        tokens = ap (λ ts. token_of spot piece ++ ts) as_read.tokens;
        ending =
            subst (λ s. EndsAs s rest read.ending) (sym (walk-append spot bytes (flat_map bytes_of pieces)))
            as_read.ending;
      },
    )

-- a fault right here
faulty : {spot : Spot} {text : List ℕ} {fault : LexFault} → IsFault spot text fault →
    ReadsFrom spot text (record { tokens = []; ending = Err fault })
faulty {text} is = ([], text, record { spelled = refl; each = tt; tokens = refl; ending = is })

at_end : {spot : Spot} → ReadsFrom spot [] (finished spot)
at_end = ([], [], record { spelled = refl; each = tt; tokens = refl; ending = (refl, refl) })

-- what is claimed of each mode, with the bytes of the construct so far
abbrev Claim : Mode → Spot → List ℕ → Type 0
Claim Between spot text = ReadsFrom spot text (lexed Between spot text)
Claim (InWord start) spot text =
    (front : List ℕ) → 0 < length front → list_all is_word_byte front ≡ true → spot ≡ walk start front →
    begins_with is_word_byte text ≡ true → ReadsFrom start (front ++ text) (lexed (InWord start) spot text)
Claim (InQuotes start) spot text =
    (front : List ℕ) → list_all is_quotable front ≡ true → spot ≡ walk start (34 ∷ front) →
    ReadsFrom start (34 ∷ front ++ text) (lexed (InQuotes start) spot text)
Claim InLine spot text =
    (start : Spot) (front : List ℕ) → list_all (λ byte. not (byte == 10)) front ≡ true → spot ≡ walk start (47 ∷ front)
    →
    begins_with (λ byte. byte == 47) (front ++ text) ≡ true
    → ReadsFrom start (47 ∷ front ++ text) (lexed InLine spot text)
Claim (Opening start) spot text =
    spot ≡ walk start (47 ∷ []) → begins_with (λ byte. byte == 42) text ≡ true →
    ReadsFrom start (47 ∷ text) (lexed (Opening start) spot text)
Claim (InBlock start starred) spot text =
    (front : List ℕ) → has_close front ≡ false → ends_starred false front ≡ starred
    → spot ≡ walk start (47 ∷ 42 ∷ front) →
    ReadsFrom start (47 ∷ 42 ∷ front ++ text) (lexed (InBlock start starred) spot text)

-- what is claimed of each mode behind a byte
abbrev Behind : Spot → ℕ → List ℕ → Type 0
Behind spot byte rest = (mode : Mode) → Claim mode (step spot byte) rest

-- one more byte of a word
word_on : (start spot : Spot) (front : List ℕ) (byte : ℕ) (rest : List ℕ) → Behind spot byte rest →
    list_all is_word_byte front ≡ true → spot ≡ walk start front → is_word_byte byte ≡ true →
    ReadsFrom start (front ++ byte ∷ rest) (proceed (in_word start (spot.offset + 1) rest)
    (λ mode. lexed mode (step spot byte) rest))
word_on start spot front byte rest behind each there in_a_word =
    let longer = front ++ byte ∷ [] in
    let all_longer : list_all is_word_byte longer ≡ true = list_all-push is_word_byte front byte each in_a_word in
    let there_longer : step spot byte ≡ walk start longer =
    ap (λ s. step s byte) there ∙ sym (walk-append start front (byte ∷ [])) in
    let size : length longer ≡ length front + 1 = length-append front (byte ∷ []) in
    let reached : spot.offset ≡ start.offset + length front =
    ap (λ (s : Spot). s.offset) there ∙ walk-offset start front in
    subst (λ t. ReadsFrom start t (proceed (in_word start (spot.offset + 1) rest)
    (λ mode. lexed mode (step spot byte) rest)))
    (push-append front byte rest)
    (by_test (begins_with is_word_byte rest)
    (λ on. rw on (behind (InWord start) longer (omega arith) all_longer there_longer on))
    (λ off.
    let stop : spot.offset + 1 ≡ start.offset + length longer = omega arith in
    let count : spot.offset + 1 - start.offset ≡ length longer = omega arith in
    rw off
    (by_test (nat_le (spot.offset + 1 - start.offset) 255)
    (λ few.
    let fits : spot.offset + 1 - start.offset ≤ 255 = leb-true _ _ few in
    rw few
    (subst (λ n. ReadsFrom start (longer ++ rest)
    (with_token (token_from Word start n) (lexed Between (step spot byte) rest))) (sym stop)
    (prepend start (AWord longer) (record { some = omega arith; few = omega arith; each = all_longer }, off)
    (subst (λ s. ReadsFrom s rest (lexed Between (step spot byte) rest)) there_longer (behind Between)))))
    (λ many.
    let long : 255 < spot.offset + 1 - start.offset = leb-false _ _ many in
    rw many (faulty (long_word longer rest refl all_longer off (omega arith) refl))))))

empty_list : (bytes : List ℕ) → length bytes ≡ 0 → bytes ≡ []
empty_list [] none = refl
empty_list (b ∷ bytes) none = absurd (omega arith)

positive : (n : ℕ) → (n ≡ 0 → ⊥) → 0 < n
positive zero some = absurd (some refl)
positive (suc n) some = omega arith

-- a closing quote
closes : (start : Spot) {spot : Spot} (front : List ℕ) {rest : List ℕ}
    → ReadsFrom (step spot 34) rest (lexed Between (step spot 34) rest) →
    list_all is_quotable front ≡ true → spot ≡ walk start (34 ∷ front) →
    ReadsFrom start (34 ∷ front ++ 34 ∷ rest) (proceed (at_close start spot) (λ mode. lexed mode (step spot 34) rest))
closes start {spot} front {rest} behind each there =
    let reached : spot.offset ≡ start.offset + length (34 ∷ front) =
    ap (λ (s : Spot). s.offset) there ∙ walk-offset start (34 ∷ front) in
    by_test (spot.offset == start.offset + 1)
    (λ here.
    let none : spot.offset ≡ start.offset + 1 = eqb-true _ _ here in
    let empty : front ≡ [] = empty_list front (omega arith) in
    rw here (subst (λ f. ReadsFrom start (34 ∷ f ++ 34 ∷ rest) (failed EmptyName start)) (sym empty)
    (faulty (empty_name rest refl refl)))) (λ further.
    let some : 0 < length front = positive (length front) (λ none. eqb-false _ _ further (omega arith)) in
    let count : spot.offset - (start.offset + 1) ≡ length front = omega arith in
    let stop : spot.offset + 1 ≡ start.offset + length front + 2 = omega arith in
    rw further
    (by_test (nat_le (spot.offset - (start.offset + 1)) 255)
    (λ few.
    let fits : spot.offset - (start.offset + 1) ≤ 255 = leb-true _ _ few in
    rw few
    (subst (λ n. ReadsFrom start (34 ∷ front ++ 34 ∷ rest)
    (with_token (token_from Quoted start n) (lexed Between (step spot 34) rest))) (sym stop)
    (subst (λ t. ReadsFrom start (34 ∷ t) (with_token (token_from Quoted start (start.offset + length front + 2))
    (lexed Between (step spot 34) rest)))
    (append_assoc front (34 ∷ []) rest) (prepend start (AQuoted front)
    (record { some = some; few = omega arith; each = each })
    (subst (λ s. ReadsFrom s rest (lexed Between (step spot 34) rest))
    (ap (λ s. step s 34) there ∙ sym (walk-append start (34 ∷ front) (34 ∷ []))) behind)))))
    (λ many.
    let long : 255 < spot.offset - (start.offset + 1) = leb-false _ _ many in
    rw many (faulty (long_quoted front rest refl each (omega arith) refl)))))

-- one more byte of a quoted text
quoted_on : {start spot : Spot} (front : List ℕ) (byte : ℕ) (rest : List ℕ) → Behind spot byte rest →
    list_all is_quotable front ≡ true → spot ≡ walk start (34 ∷ front) →
    ReadsFrom start (34 ∷ front ++ byte ∷ rest) (lexed (InQuotes start) spot (byte ∷ rest))
quoted_on {start} {spot} front byte rest behind each there =
    by_test (byte == 34)
    (λ quote.
    let is : byte ≡ 34 = eqb-true _ _ quote in
    subst (λ b. ReadsFrom start (34 ∷ front ++ b ∷ rest) (lexed (InQuotes start) spot (b ∷ rest))) (sym is)
    (closes start front (subst (λ b. ReadsFrom (step spot b) rest (lexed Between (step spot b) rest)) is
    (behind Between)) each there))
    (λ other. rw other
    (by_test (is_quotable byte)
    (λ quotable. rw quotable
    (subst (λ t. ReadsFrom start (34 ∷ t) (lexed (InQuotes start) (step spot byte) rest)) (push-append front byte rest)
    (behind (InQuotes start) (front ++ byte ∷ []) (list_all-push is_quotable front byte each quotable)
    (ap (λ s. step s byte) there ∙ sym (walk-append start (34 ∷ front) (byte ∷ []))))))
    (λ bad. rw bad (faulty (bad_quoted front byte rest refl each bad other (ap (fault_at BadByte) there))))))

-- a comment of a line is over in front of a line feed, and at the end
line_closes : (start : Spot) {spot : Spot} (front text : List ℕ) {read : Lexed} → ReadsFrom spot text read →
    list_all (λ b. not (b == 10)) front ≡ true → spot ≡ walk start (47 ∷ front) →
    begins_with (λ b. b == 47) (front ++ text) ≡ true → begins_with (λ b. not (b == 10)) text ≡ false →
    ReadsFrom start (47 ∷ front ++ text) read
line_closes start [] [] reads each there slashed over = absurd (cc)
line_closes start [] (b ∷ text) reads each there slashed over =
    let is : b ≡ 47 = eqb-true _ _ slashed in
    let feed : b ≡ 10 = eqb-true _ _ (not_false (b == 10) over) in
    absurd (omega arith)
line_closes start (b ∷ bytes) text {read} reads each there slashed over =
    let is : b ≡ 47 = eqb-true _ _ slashed in
    subst (λ c. ReadsFrom start (47 ∷ c ∷ bytes ++ text) read) (sym is)
    (prepend start (LineComment bytes) (and_right (not (b == 10)) each, over)
    (subst (λ s. ReadsFrom s text read) (there ∙ ap (λ c. walk start (47 ∷ c ∷ bytes)) is) reads))

line_goes : (spot : Spot) (byte : ℕ) (rest : List ℕ) → eqb byte 10 ≡ false
    → lexed InLine spot (byte ∷ rest) ≡ lexed InLine (step spot byte) rest
line_goes spot byte rest other =
    ap (λ b. proceed (cond b (Go Between) (Go InLine)) (λ mode. lexed mode (step spot byte) rest)) other

-- one more byte of a comment of a line, or the line feed behind it
line_on : {start spot : Spot} (front : List ℕ) (byte : ℕ) (rest : List ℕ) → Behind spot byte rest →
    list_all (λ b. not (b == 10)) front ≡ true → spot ≡ walk start (47 ∷ front) →
    begins_with (λ b. b == 47) (front ++ byte ∷ rest) ≡ true →
    ReadsFrom start (47 ∷ front ++ byte ∷ rest) (lexed InLine spot (byte ∷ rest))
unfolding is_blank
line_on {start} {spot} front byte rest behind each there slashed =
    by_test (byte == 10)
    (λ feed.
    let is : byte ≡ 10 = eqb-true _ _ feed in
    subst (λ b. ReadsFrom start (47 ∷ front ++ b ∷ rest) (lexed InLine spot (b ∷ rest))) (sym is)
    (line_closes start front (10 ∷ rest) (prepend spot (Blank 10) refl
    (subst (λ b. ReadsFrom (step spot b) rest (lexed Between (step spot b) rest)) is (behind Between)))
    each there (subst (λ b. begins_with (λ c. c == 47) (front ++ b ∷ rest) ≡ true) is slashed) refl))
    (λ other. subst (ReadsFrom start (47 ∷ front ++ byte ∷ rest)) (sym (line_goes spot byte rest other))
    (subst (λ t. ReadsFrom start (47 ∷ t) (lexed InLine (step spot byte) rest)) (push-append front byte rest)
    (behind InLine start (front ++ byte ∷ [])
    (list_all-push (λ b. not (b == 10)) front byte each (ap not other))
    (ap (λ s. step s byte) there ∙ sym (walk-append start (47 ∷ front) (byte ∷ [])))
    (subst (λ t. begins_with (λ c. c == 47) t ≡ true) (sym (push-append front byte rest)) slashed))))

-- the slash behind a star closes a comment
block_closes : (start : Spot) {spot : Spot} (front : List ℕ) {rest : List ℕ} {read : Lexed}
    → ReadsFrom (step spot 47) rest read →
    has_close front ≡ false → ends_starred false front ≡ true → spot ≡ walk start (47 ∷ 42 ∷ front) →
    ReadsFrom start (47 ∷ 42 ∷ front ++ 47 ∷ rest) read
block_closes start {spot} front {rest} {read} reads unclosed ends there =
    let last = star_last front ends in
    let inner = last.0 in
    let close : List ℕ = 42 ∷ 47 ∷ [] in
    let text_is : (inner ++ 42 ∷ 47 ∷ []) ++ rest ≡ front ++ 47 ∷ rest =
    append_assoc inner (42 ∷ 47 ∷ []) rest ∙ sym (push-append inner 42 (47 ∷ rest))
    ∙ ap (λ t. t ++ 47 ∷ rest) (sym last.1) in
    let bytes_are : inner ++ 42 ∷ 47 ∷ [] ≡ front ++ 47 ∷ [] =
    sym (push-append inner 42 (47 ∷ [])) ∙ ap (λ t. t ++ 47 ∷ []) (sym last.1) in
    let there_closed : step spot 47 ≡ walk start (47 ∷ 42 ∷ inner ++ 42 ∷ 47 ∷ []) =
    ap (λ s. step s 47) there ∙ sym (walk-append start (47 ∷ 42 ∷ front) (47 ∷ []))
    ∙ ap (λ t. walk start (47 ∷ 42 ∷ t)) (sym bytes_are) in
    let inner_unclosed : has_close inner ≡ false =
    has_close-front inner (42 ∷ []) (ap has_close (sym last.1) ∙ unclosed) in
    subst (λ t. ReadsFrom start (47 ∷ 42 ∷ t) read) text_is (prepend start (BlockComment inner) inner_unclosed
    (subst (λ s. ReadsFrom s rest read) there_closed reads))

-- one more byte of a comment in `/*` and `*/`
block_on : {start spot : Spot} {starred : Bool} (front : List ℕ) (byte : ℕ) (rest : List ℕ) → Behind spot byte rest →
    has_close front ≡ false → ends_starred false front ≡ starred → spot ≡ walk start (47 ∷ 42 ∷ front) →
    ReadsFrom start (47 ∷ 42 ∷ front ++ byte ∷ rest) (lexed (InBlock start starred) spot (byte ∷ rest))
block_on {start} {spot} {starred} front byte rest behind unclosed ends there =
    by_test (starred && byte == 47)
    (λ closed.
    let is : byte ≡ 47 = eqb-true _ _ (and_right starred {b = byte == 47} closed) in
    rw closed
    (subst (λ b. ReadsFrom start (47 ∷ 42 ∷ front ++ b ∷ rest) (lexed Between (step spot byte) rest)) (sym is)
    (block_closes start front
    (subst (λ b. ReadsFrom (step spot b) rest (lexed Between (step spot byte) rest)) is (behind Between))
    unclosed (ends ∙ and_left starred (byte == 47) closed) there)))
    (λ still. rw still
    (subst (λ t. ReadsFrom start (47 ∷ 42 ∷ t) (lexed (InBlock start (byte == 42)) (step spot byte) rest))
    (push-append front byte rest)
    (behind (InBlock start (byte == 42)) (front ++ byte ∷ [])
    (has_close-push false front byte unclosed refl (ap (λ s. s && byte == 47) ends ∙ still))
    (ends_starred-push false front byte)
    (ap (λ s. step s byte) there ∙ sym (walk-append start (47 ∷ 42 ∷ front) (byte ∷ []))))))

-- a slash where a piece begins
slash_on : {spot : Spot} {rest : List ℕ} → Behind spot 47 rest →
    ReadsFrom spot (47 ∷ rest) (proceed (at_slash spot rest) (λ mode. lexed mode (step spot 47) rest))
slash_on {spot} {rest} behind =
    by_test (begins_with (λ byte. byte == 47) rest)
    (λ line. rw line (behind InLine spot [] refl refl line))
    (λ no_slash. rw no_slash
    (by_test (begins_with (λ byte. byte == 42) rest)
    (λ block. rw block (behind (Opening spot) refl block))
    (λ no_star. rw no_star (faulty (bad_slash rest refl no_slash no_star refl)))))

-- a byte where a piece begins, when it is known
known_on : {spot : Spot} {byte : ℕ} (known : ℕ) {rest : List ℕ} → (byte == known) ≡ true → Behind spot byte rest →
    (Behind spot known rest → ReadsFrom spot (known ∷ rest) (lexed Between spot (known ∷ rest))) →
    ReadsFrom spot (byte ∷ rest) (lexed Between spot (byte ∷ rest))
known_on {spot} {byte} known {rest} is behind at_known =
    let same : byte ≡ known = eqb-true _ _ is in
    subst (λ b. ReadsFrom spot (b ∷ rest) (lexed Between spot (b ∷ rest))) (sym same)
    (at_known (subst (λ b. Behind spot b rest) same behind))

at_known_slash : {spot : Spot} {rest : List ℕ} → Behind spot 47 rest
    → ReadsFrom spot (47 ∷ rest) (lexed Between spot (47 ∷ rest))
unfolding is_blank
at_known_slash behind = slash_on behind

at_known_quote : {spot : Spot} {rest : List ℕ} → Behind spot 34 rest
    → ReadsFrom spot (34 ∷ rest) (lexed Between spot (34 ∷ rest))
unfolding is_blank
at_known_quote {spot} behind = behind (InQuotes spot) [] refl refl

at_known_equals : {spot : Spot} {rest : List ℕ} → Behind spot 61 rest
    → ReadsFrom spot (61 ∷ rest) (lexed Between spot (61 ∷ rest))
unfolding is_blank
at_known_equals {spot} behind = prepend spot AnEquals tt (behind Between)

at_known_semicolon : {spot : Spot} {rest : List ℕ} → Behind spot 59 rest
    → ReadsFrom spot (59 ∷ rest) (lexed Between spot (59 ∷ rest))
unfolding is_blank
at_known_semicolon {spot} behind = prepend spot ASemicolon tt (behind Between)

-- a byte where a piece begins
start_on : {spot : Spot} {byte : ℕ} {rest : List ℕ} → Behind spot byte rest
    → ReadsFrom spot (byte ∷ rest) (lexed Between spot (byte ∷ rest))
start_on {spot} {byte} {rest} behind =
    by_test (is_blank byte) (λ blank. rw blank (prepend spot (Blank byte) blank (behind Between)))
    (λ no_blank. by_test (byte == 47) (λ slash. known_on 47 slash behind (at_known_slash))
    (λ no_slash. by_test (byte == 34) (λ quote. known_on 34 quote behind (at_known_quote))
    (λ no_quote. by_test (byte == 61) (λ equals. known_on 61 equals behind (at_known_equals))
    (λ no_equals. by_test (byte == 59) (λ semicolon. known_on 59 semicolon behind (at_known_semicolon))
    (λ no_semicolon. rw (no_blank, no_slash, no_quote, no_equals, no_semicolon)
    (by_test (is_word_byte byte)
    (λ in_a_word. rw in_a_word (word_on spot spot [] byte rest behind refl refl in_a_word)) (λ bad. rw bad (faulty
    (bad_byte byte rest refl (rw (no_blank, no_slash, no_quote, no_equals, no_semicolon, bad) refl) refl)))))))))

-- each mode's claim holds of each text
claims : (mode : Mode) (spot : Spot) (text : List ℕ) → Claim mode spot text
claims Between spot [] = at_end
claims Between spot (byte ∷ rest) = start_on (λ mode. claims mode (step spot byte) rest)
claims (InWord start) spot [] = λ front some each there goes_on. absurd (cc)
claims (InWord start) spot (byte ∷ rest) = λ front some each there goes_on.
    word_on start spot front byte rest (λ mode. claims mode (step spot byte) rest) each there goes_on
claims (InQuotes start) spot [] = λ front each there.
    subst (λ t. ReadsFrom start (34 ∷ t) (failed OpenQuote start)) (sym (append-nil front))
    (faulty (open_quote front refl each refl))
claims (InQuotes start) spot (byte ∷ rest) = λ front each there.
    quoted_on front byte rest (λ mode. claims mode (step spot byte) rest) each there
claims InLine spot [] = λ start front each there slashed.
    line_closes start front [] (at_end) each there slashed refl
claims InLine spot (byte ∷ rest) = λ start front each there slashed.
    line_on front byte rest (λ mode. claims mode (step spot byte) rest) each there slashed
claims (Opening start) spot [] = λ there starred. absurd (cc)
claims (Opening start) spot (byte ∷ rest) = λ there starred.
    let is : byte ≡ 42 = eqb-true _ _ starred in
    subst (λ b. ReadsFrom start (47 ∷ b ∷ rest) (lexed (InBlock start false) (step spot byte) rest)) (sym is)
    (claims (InBlock start false) (step spot byte) rest [] refl refl
    (ap (λ s. step s byte) there ∙ ap (λ b. walk start (47 ∷ b ∷ [])) is))
claims (InBlock start starred) spot [] = λ front unclosed ends there.
    subst (λ t. ReadsFrom start (47 ∷ 42 ∷ t) (failed OpenComment start)) (sym (append-nil front))
    (faulty (open_comment front refl unclosed refl))
claims (InBlock start starred) spot (byte ∷ rest) = λ front unclosed ends there.
    block_on front byte rest (λ mode. claims mode (step spot byte) rest) unclosed ends there

-- what is read of a text is a reading of it
pub reads : (spot : Spot) (text : List ℕ) → ReadsFrom spot text (lexed Between spot text)
reads spot text = claims Between spot text
