-- What a text gives from a spot on, read byte by byte: the tokens, and then the place of the end or the fault.
use Rattle.std.specs.Prelude.{ℕ, ◌+◌, ◌-◌, Bool, false, ◌&&◌, ◌==◌, nat_le, if◌then◌else◌, List, [], ◌∷◌, drop, Result}
use Rattle.std.specs.Prelude.{Ok, Err, Option, Some, None}
use Rattle.deck_limits.specs.declared.TheConstants.{LONGEST_NAME}
use Rattle.galileo_lexer.specs.{declared.spot.Spot.Spot, declared.token.LexPlace.LexPlace, declared.token.Token.Token}
use Rattle.galileo_lexer.specs.{declared.token.TokenKind.TokenKind, declared.token.LexCode.LexCode}
use Rattle.galileo_lexer.specs.{declared.token.LexFault.LexFault}
use Rattle.galileo_lexer.specs.declared.token.TokenKind.TheVariants.{Word, Quoted, Equals, Semicolon}
use Rattle.galileo_lexer.specs.declared.token.LexCode.TheVariants.{BadByte, OpenQuote, OpenComment, EmptyName}
use Rattle.galileo_lexer.specs.declared.token.LexCode.TheVariants.{NameTooLong}
use Rattle.galileo_lexer.specs.Bytes.{is_blank, is_word_byte, is_quotable, begins_with}
use Rattle.galileo_lexer.specs.Spot.{origin, step, place_of}

-- the tokens, and then the place of the text's end or the first fault
pub record Lexed : Type 0 where
  pub tokens : List Token
  pub ending : Result LexPlace LexFault

-- what is being read: nothing, or a construct, mostly with the spot where it began
pub data Mode : Type 0 where
  Between : Mode
  InWord : Spot → Mode
  InQuotes : Spot → Mode
  InLine : Mode
  -- the star of an opening is still to come
  Opening : Spot → Mode
  -- whether the byte before was a star that may close the comment
  InBlock : Spot → Bool → Mode

-- what a byte does: the reading goes on, a token ends with it, or a fault is seen
pub data Act : Type 0 where
  Go : Mode → Act
  Give : Token → Act
  Fail : LexCode → Spot → Act

-- the token of this kind from one spot up to an offset
abbrev pub token_from : TokenKind → Spot → ℕ → Token
token_from kind start stop = record { kind = kind; start = start.offset; end = stop; place = place_of start }

-- a token of a name, which has 255 bytes at most
abbrev pub name_ends : TokenKind → Spot → ℕ → ℕ → Act
name_ends kind start stop size =
    if nat_le size LONGEST_NAME then Give (token_from kind start stop) else Fail NameTooLong start

-- a word's byte, in front of an offset: the word goes on where a byte of a word follows
abbrev pub in_word : Spot → ℕ → List ℕ → Act
in_word start stop rest =
    if begins_with is_word_byte rest then Go (InWord start) else name_ends Word start stop (stop - start.offset)

-- a slash: it begins a comment, or nothing
abbrev pub at_slash : Spot → List ℕ → Act
at_slash spot rest =
    if begins_with (λ byte. byte == 47) rest then Go InLine
    else (if begins_with (λ byte. byte == 42) rest then Go (Opening spot)
    else Fail BadByte spot)

-- a closing quote
abbrev pub at_close : Spot → Spot → Act
at_close start spot =
    if spot.offset == start.offset + 1 then Fail EmptyName start
    else name_ends Quoted start (spot.offset + 1) (spot.offset - (start.offset + 1))

-- a byte where a construct may begin
abbrev pub at_start : Spot → ℕ → List ℕ → Act
at_start spot byte rest =
    if is_blank byte then Go Between
    else (if byte == 47 then at_slash spot rest
    else (if byte == 34 then Go (InQuotes spot)
    else (if byte == 61 then Give (token_from Equals spot (spot.offset + 1))
    else (if byte == 59 then Give (token_from Semicolon spot (spot.offset + 1))
    else (if is_word_byte byte then in_word spot (spot.offset + 1) rest
    else Fail BadByte spot)))))

-- what a byte does in each mode, with the bytes behind it
abbrev pub act : Mode → Spot → ℕ → List ℕ → Act
act Between spot byte rest = at_start spot byte rest
act (InWord start) spot byte rest = in_word start (spot.offset + 1) rest
act (InQuotes start) spot byte rest =
    if byte == 34 then at_close start spot
    else (if is_quotable byte then Go (InQuotes start)
    else Fail BadByte spot)
act InLine spot byte rest = if byte == 10 then Go Between else Go InLine
act (Opening start) spot byte rest = Go (InBlock start false)
act (InBlock start starred) spot byte rest =
    if starred && byte == 47 then Go Between else Go (InBlock start (byte == 42))

-- no token, and the fault of this kind at a spot
abbrev pub failed : LexCode → Spot → Lexed
failed code spot = record { tokens = []; ending = Err (record { code = code; place = place_of spot }) }

-- no token, and the text ends without a fault at a spot
abbrev pub finished : Spot → Lexed
finished spot = record { tokens = []; ending = Ok (place_of spot) }

-- a token in front of what is read behind it
abbrev pub with_token : Token → Lexed → Lexed
with_token token more = record { tokens = token ∷ more.tokens; ending = more.ending }

-- the text ends in this mode
abbrev pub ended : Mode → Spot → Lexed
ended Between spot = finished spot
ended (InWord start) spot = finished spot
ended (InQuotes start) spot = failed OpenQuote start
ended InLine spot = finished spot
ended (Opening start) spot = failed OpenComment start
ended (InBlock start starred) spot = failed OpenComment start

-- what an act gives, with what each mode gives behind the byte
abbrev pub proceed : Act → (Mode → Lexed) → Lexed
proceed (Go mode) next = next mode
proceed (Give token) next = with_token token (next Between)
proceed (Fail code spot) next = failed code spot

-- what these bytes give, from a mode and a spot on
abbrev pub lexed : Mode → Spot → List ℕ → Lexed
lexed mode spot [] = ended mode spot
lexed mode spot (byte ∷ rest) = proceed (act mode spot byte rest) (λ then_mode. lexed then_mode (step spot byte) rest)

-- what a whole text gives
abbrev pub tokens_of : List ℕ → Lexed
tokens_of text = lexed Between origin text

-- what is answered where no token is left: none at the end, else the fault
abbrev pub answer_of : Result LexPlace LexFault → Result (Option Token) LexFault
answer_of (Ok place) = Ok None
answer_of (Err fault) = Err fault

-- what `next` answers
abbrev pub next_of : List Token → Result LexPlace LexFault → Result (Option Token) LexFault
next_of [] ending = answer_of ending
next_of (token ∷ tokens) ending = Ok (Some token)

-- what is still to come behind it: the tokens but the first, and the same ending, so a fault comes again
abbrev pub after : Lexed → Lexed
after lexed_now = record { tokens = drop 1 lexed_now.tokens; ending = lexed_now.ending }
