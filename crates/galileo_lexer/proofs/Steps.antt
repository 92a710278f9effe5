-- One byte's step of the reading, in the middle of a text.
use Rattle.std.proofs.Common.{◌≡◌, ℕ, zero, suc, ◌+◌, ◌<◌, ◌≤◌, true, false, eqb, List, [], ◌∷◌, length, get_or, drop}
use Rattle.std.proofs.Common.{sym, refl, ap, ◌∙◌, arith}
use Rattle.std.specs.Prelude.{◌==◌}
use Rattle.std.proofs.lemmas.Bool.{ne_eqb}
use Rattle.std.proofs.lemmas.List.{at_drop_more, at_drop_all, drop_more}
use Rattle.galileo_lexer.specs.{declared.spot.Spot.Spot, Spot.along, Spot.step}
use Rattle.galileo_lexer.specs.{declared.token.LexCode.TheVariants.BadByte}
use Rattle.galileo_lexer.specs.Bytes.{is_word_byte, is_quotable, is_blank, begins_with}
use Rattle.galileo_lexer.specs.Lexed.{Lexed, Mode, Between, InQuotes, InLine, InBlock, at_start, in_word, proceed}
use Rattle.galileo_lexer.specs.Lexed.{lexed, ended, failed}

-- what a text gives from a spot inside it is what its byte there makes of the rest
pub lexed_here : (mode : Mode) (spot : Spot) (text : List ℕ) → spot.offset < length text →
    lexed mode spot (drop spot.offset text) ≡ lexed mode spot (get_or text spot.offset 0 ∷ drop (spot.offset + 1) text)
lexed_here mode spot text inside = at_drop_more (lexed mode spot) text spot.offset 0 inside

pub lexed_end : (mode : Mode) (spot : Spot) (text : List ℕ) → length text ≤ spot.offset →
    lexed mode spot (drop spot.offset text) ≡ ended mode spot
lexed_end mode spot text past = at_drop_all (lexed mode spot) text spot.offset past

-- no byte of a word or of a quoted text ends a line
pub word_no_feed : (byte : ℕ) → is_word_byte byte ≡ true → eqb byte 10 ≡ false
unfolding is_word_byte
word_no_feed byte in_a_word = grind arith

pub quotable_no_feed : (byte : ℕ) → is_quotable byte ≡ true → eqb byte 10 ≡ false
unfolding is_quotable
quotable_no_feed byte quotable = grind arith

pub word_no_blank : (byte : ℕ) → is_word_byte byte ≡ true → is_blank byte ≡ false
unfolding is_word_byte is_blank
word_no_blank byte in_a_word = grind arith

-- a byte of a word is none that is no byte of a word
word_is_not : (byte other : ℕ) → is_word_byte byte ≡ true → is_word_byte other ≡ false → eqb byte other ≡ false
word_is_not byte other in_a_word not_in = grind arith

no_word_slash : is_word_byte 47 ≡ false
unfolding is_word_byte
no_word_slash = refl

no_word_quote : is_word_byte 34 ≡ false
unfolding is_word_byte
no_word_quote = refl

no_word_equals : is_word_byte 61 ≡ false
unfolding is_word_byte
no_word_equals = refl

no_word_semicolon : is_word_byte 59 ≡ false
unfolding is_word_byte
no_word_semicolon = refl

-- on one line
pub step_along : (spot : Spot) (byte : ℕ) → eqb byte 10 ≡ false → step spot byte ≡ along spot (spot.offset + 1)
step_along spot byte no_feed = rw no_feed refl

-- the rest of a word that is read up to an offset
abbrev pub word_from : Spot → ℕ → List ℕ → Lexed
word_from start stop rest = proceed (in_word start stop rest) (λ mode. lexed mode (along start stop) rest)

pub word_step : (start : Spot) (stop byte : ℕ) (rest : List ℕ) → is_word_byte byte ≡ true →
    word_from start stop (byte ∷ rest) ≡ word_from start (stop + 1) rest
word_step start stop byte rest in_a_word = rw (in_a_word, word_no_feed byte in_a_word) refl

pub word_more : (start : Spot) (stop : ℕ) (text : List ℕ) → stop < length text
    → is_word_byte (get_or text stop 0) ≡ true →
    word_from start stop (drop stop text) ≡ word_from start (stop + 1) (drop (stop + 1) text)
word_more start stop text inside in_a_word =
    at_drop_more (word_from start stop) text stop 0 inside
    ∙ word_step start stop (get_or text stop 0) (drop (stop + 1) text) in_a_word

-- a byte of a word begins a word and nothing else
pub word_starts : (spot : Spot) (byte : ℕ) (rest : List ℕ) → is_word_byte byte ≡ true →
    at_start spot byte rest ≡ in_word spot (spot.offset + 1) rest
word_starts spot byte rest in_a_word =
    rw (
      word_no_blank byte in_a_word,
      word_is_not byte 47 in_a_word no_word_slash,
      word_is_not byte 34 in_a_word no_word_quote,
      word_is_not byte 61 in_a_word no_word_equals,
      word_is_not byte 59 in_a_word no_word_semicolon,
      in_a_word,
    ) refl

-- the first byte of a word
pub word_first : (start : Spot) (byte : ℕ) (rest : List ℕ) → is_word_byte byte ≡ true →
    lexed Between start (byte ∷ rest) ≡ word_from start (start.offset + 1) rest
word_first start byte rest in_a_word =
    ap (λ a. proceed a (λ mode. lexed mode (step start byte) rest)) (word_starts start byte rest in_a_word)
    ∙ ap (λ s. proceed (in_word start (start.offset + 1) rest) (λ mode. lexed mode s rest))
    (step_along start byte (word_no_feed byte in_a_word))

pub word_begins : (start : Spot) (text : List ℕ) → start.offset < length text
    → is_word_byte (get_or text start.offset 0) ≡ true →
    lexed Between start (drop start.offset text) ≡ word_from start (start.offset + 1) (drop (start.offset + 1) text)
word_begins start text inside in_a_word =
    lexed_here Between start text inside ∙ word_first start (get_or text start.offset 0) (drop (start.offset + 1) text)
    in_a_word

-- a quote begins a quoted token
pub quotes_begin : (start : Spot) (text : List ℕ) → start.offset < length text → get_or text start.offset 0 ≡ 34 →
    lexed Between start (drop start.offset text) ≡ lexed (InQuotes start) (along start (start.offset + 1))
    (drop (start.offset + 1) text)
unfolding is_blank
quotes_begin start text inside quote =
    lexed_here Between start text inside
    ∙ ap (λ b. lexed Between start (b ∷ drop (start.offset + 1) text)) quote

pub quotes_more : (start : Spot) (stop : ℕ) (text : List ℕ) → stop < length text →
    eqb (get_or text stop 0) 34 ≡ false → is_quotable (get_or text stop 0) ≡ true →
    lexed (InQuotes start) (along start stop) (drop stop text)
    ≡ lexed (InQuotes start) (along start (stop + 1)) (drop (stop + 1) text)
quotes_more start stop text inside no_quote quotable =
    lexed_here (InQuotes start) (along start stop) text inside
    ∙ rw (no_quote, quotable, quotable_no_feed (get_or text stop 0) quotable) refl

-- a comment of a line is over at the line feed, which is a blank, and at the end
pub line_over : (spot : Spot) (text : List ℕ) → spot.offset < length text → get_or text spot.offset 0 ≡ 10 →
    lexed InLine spot (drop spot.offset text) ≡ lexed Between spot (drop spot.offset text)
unfolding is_blank
line_over spot text inside feed =
    lexed_here InLine spot text inside
    ∙ ap (λ b. lexed InLine spot (b ∷ drop (spot.offset + 1) text)) feed
    ∙ sym (ap (λ b. lexed Between spot (b ∷ drop (spot.offset + 1) text)) feed)
    ∙ sym (lexed_here Between spot text inside)

pub line_out : (spot : Spot) (text : List ℕ) → length text ≤ spot.offset →
    lexed InLine spot (drop spot.offset text) ≡ lexed Between spot (drop spot.offset text)
line_out spot text past = lexed_end InLine spot text past ∙ sym (lexed_end Between spot text past)

-- what a slash begins, by the byte behind it
slash_here : (start : Spot) (text : List ℕ) → start.offset < length text → get_or text start.offset 0 ≡ 47 →
    lexed Between start (drop start.offset text) ≡ lexed Between start (47 ∷ drop (start.offset + 1) text)
slash_here start text inside slash =
    lexed_here Between start text inside ∙ ap (λ b. lexed Between start (b ∷ drop (start.offset + 1) text)) slash

second_here : (start : Spot) (text : List ℕ) {second : ℕ} → start.offset + 1 < length text
    → get_or text (start.offset + 1) 0 ≡ second →
    drop (start.offset + 1) text ≡ second ∷ drop (start.offset + 1 + 1) text
second_here start text inside is =
    drop_more text (start.offset + 1) 0 inside ∙ ap (λ b. b ∷ drop (start.offset + 1 + 1) text) is

pub line_begins : (start : Spot) (text : List ℕ) → start.offset + 1 < length text → get_or text start.offset 0 ≡ 47
    → get_or text (start.offset + 1) 0 ≡ 47 →
    lexed Between start (drop start.offset text) ≡ lexed InLine (along start (start.offset + 1))
    (drop (start.offset + 1) text)
unfolding is_blank
line_begins start text inside slash again =
    slash_here start text (omega arith) slash
    ∙ ap (λ rest. lexed Between start (47 ∷ rest)) (second_here start text inside again)
    ∙ sym (ap (lexed InLine (along start (start.offset + 1))) (second_here start text inside again))

pub block_begins : (start : Spot) (text : List ℕ) → start.offset + 1 < length text → get_or text start.offset 0 ≡ 47
    → get_or text (start.offset + 1) 0 ≡ 42 →
    lexed Between start (drop start.offset text) ≡ lexed (InBlock start false) (along start (start.offset + 1 + 1))
    (drop (start.offset + 1 + 1) text)
unfolding is_blank
block_begins start text inside slash star =
    slash_here start text (omega arith) slash
    ∙ ap (λ rest. lexed Between start (47 ∷ rest)) (second_here start text inside star)

-- no byte that isn't at its place begins the rest
no_second : (text : List ℕ) (i byte : ℕ) → (i < length text → get_or text i 0 ≡ byte → ⊥)
    → begins_with (λ b. b == byte) (drop i text) ≡ false
no_second [] zero byte not = refl
no_second (x ∷ text) zero byte not = ne_eqb x byte (λ is. not (omega arith) is)
no_second [] (suc i) byte not = refl
no_second (x ∷ text) (suc i) byte not = no_second text i byte (λ inside is. not (omega arith) is)

alone : (start : Spot) (rest : List ℕ) → begins_with (λ b. b == 47) rest ≡ false
    → begins_with (λ b. b == 42) rest ≡ false →
    lexed Between start (47 ∷ rest) ≡ failed BadByte start
unfolding is_blank
alone start [] no_slash no_star = refl
alone start (b ∷ rest) no_slash no_star = rw (no_slash, no_star) refl

-- a slash that begins no comment
pub slash_alone : (start : Spot) (text : List ℕ) → start.offset < length text → get_or text start.offset 0 ≡ 47 →
    (start.offset + 1 < length text → get_or text (start.offset + 1) 0 ≡ 47 → ⊥) →
    (start.offset + 1 < length text → get_or text (start.offset + 1) 0 ≡ 42 → ⊥) →
    lexed Between start (drop start.offset text) ≡ failed BadByte start
unfolding is_blank
slash_alone start text inside slash no_slash no_star =
    slash_here start text inside slash ∙ alone start (drop (start.offset + 1) text) (no_second _ _ _ no_slash)
    (no_second _ _ _ no_star)
