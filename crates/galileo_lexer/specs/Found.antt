-- What a step of the lexer finds is what the text gives from there on.
use Rattle.std.specs.Prelude.{◌≡◌, ℕ, ◌<◌, List, [], drop, nat_le, if◌then◌else◌, Result, Ok, Err}
use Rattle.deck_limits.specs.declared.TheConstants.{LONGEST_NAME}
use Rattle.galileo_lexer.specs.{declared.spot.Spot.Spot, declared.token.TokenKind.TokenKind}
use Rattle.galileo_lexer.specs.{declared.token.LexCode.LexCode, declared.token.LexCode.TheVariants.NameTooLong}
use Rattle.galileo_lexer.specs.{declared.token.LexFault.LexFault, declared.constructs.Found.Found}
use Rattle.galileo_lexer.specs.declared.constructs.Found.TheVariants.{Token, End, Fault}
use Rattle.galileo_lexer.specs.Spot.{IsSpot, along, place_of}
use Rattle.galileo_lexer.specs.Lexed.{Lexed, Between, lexed, finished, with_token, token_from}

-- the fault of this kind at a spot
abbrev pub fault_at : LexCode → Spot → LexFault
fault_at code spot = record { code = code; place = place_of spot }

-- the token of a name, or that it is too long
abbrev pub named : TokenKind → Spot → ℕ → ℕ → Found
named kind start stop size =
    if nat_le size LONGEST_NAME then Token (token_from kind start stop) (along start stop)
    else Fault (fault_at NameTooLong start)

-- what is given from a spot on begins with what was found
abbrev pub Finds : List ℕ → Lexed → Found → Type 0
Finds text given (Token token spot) =
    (given ≡ with_token token (lexed Between spot (drop spot.offset text))) × IsSpot spot text
Finds text given (End spot) =
    (given ≡ finished spot) × (lexed Between spot (drop spot.offset text) ≡ finished spot) × IsSpot spot text
Finds text given (Fault fault) = given ≡ record { tokens = []; ending = Err fault }

-- a comment is passed over, or never ends
abbrev pub Passes : List ℕ → Spot → Lexed → Result Spot LexFault → Type 0
Passes text start given (Ok spot) =
    (given ≡ lexed Between spot (drop spot.offset text)) × IsSpot spot text × (start.offset < spot.offset)
Passes text start given (Err fault) = given ≡ record { tokens = []; ending = Err fault }
