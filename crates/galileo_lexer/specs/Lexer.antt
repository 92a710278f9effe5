-- The model of `Lexer`.
use Rattle.std.specs.Prelude.{ℕ, ◌≤◌, List, [], length, drop, Option, Some, None, Err}
use Rattle.galileo_lexer.specs.{declared.lexer.TheConstants.LONGEST_TEXT, declared.lexer.Lexer.TheInside.Inside}
use Rattle.galileo_lexer.specs.{declared.spot.Spot.Spot, declared.token.LexFault.LexFault, Spot.IsSpot}
use Rattle.galileo_lexer.specs.Lexed.{Lexed, Between, lexed}

-- what is still to come of a text from a spot on, or the fault that was found
abbrev pub to_come : List ℕ → Spot → Option LexFault → Lexed
to_come text spot None = lexed Between spot (drop spot.offset text)
to_come text spot (Some fault) = record { tokens = []; ending = Err fault }

-- what a lexer still gives, by its text, its spot and the fault that it found
abbrev pub still_to_come : Inside → Lexed
still_to_come a = to_come a.text.now a.spot a.fault

-- what holds of a lexer at any time: its text is not too long, and its spot lies in the text
pub record IsLexer (a : Inside) : Type 0 where
  pub small : length a.text.now ≤ LONGEST_TEXT
  pub spot : IsSpot a.spot a.text.now
