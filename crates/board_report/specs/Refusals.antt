-- The lines of refusals, and the usage line.
use Rattle.std.specs.Prelude.{ℕ, List, ◌++◌, codes, decimal}
use Rattle.galileo_lexer.specs.declared.token.LexCode.{LexCode}
use Rattle.galileo_lexer.specs.declared.token.LexCode.TheVariants as lex
use Rattle.galileo_tree.specs.declared.fault.What.{What}
use Rattle.galileo_tree.specs.declared.fault.What.TheVariants as what
use Rattle.tree_check.specs.declared.fault.CheckCode.{CheckCode}
use Rattle.tree_check.specs.declared.fault.CheckCode.TheVariants as check
use Rattle.crew_script.specs.declared.fault.CrewCode.{CrewCode}
use Rattle.crew_script.specs.declared.fault.CrewCode.TheVariants as crew
use Rattle.deck_reading.specs.{declared.fault.FaultCode.FaultCode, declared.fault.DeckFault.DeckFault}
use Rattle.deck_reading.specs.declared.fault.FaultCode.TheVariants.{Lex, Expected, Check, Crew}
use Rattle.board_report.specs.declared.notice.Notice.{Notice}
use Rattle.board_report.specs.declared.notice.Notice.TheVariants.{Usage, ReadFault, TooLong, ListLimit, OrderLimit}

-- a fault of the tokens: its code, `L1` to `L5`, and what it is
abbrev pub lex_text : LexCode → List ℕ
lex_text lex.BadByte = codes "L1 bad byte"
lex_text lex.OpenQuote = codes "L2 open quote"
lex_text lex.OpenComment = codes "L3 open comment"
lex_text lex.EmptyName = codes "L4 empty name"
lex_text lex.NameTooLong = codes "L5 name too long"

-- a fault of the grammar: its code, `P1`, and what is expected there
abbrev pub what_text : What → List ℕ
what_text what.Statement = codes "P1 expected statement"
what_text what.Name = codes "P1 expected name"
what_text what.Semicolon = codes "P1 expected semicolon"
what_text what.GateOrAttribute = codes "P1 expected gate or attribute"
what_text what.Equals = codes "P1 expected equals"
what_text what.Input = codes "P1 expected input"
what_text what.Value = codes "P1 expected value"
what_text what.Attribute = codes "P1 expected attribute"

-- a fault of the statements: its code, `C1` to `C16`, and what it is
abbrev pub check_text : CheckCode → List ℕ
check_text check.NoToplevel = codes "C1 no toplevel"
check_text check.TwoToplevels = codes "C2 two toplevels"
check_text check.DuplicateName = codes "C3 duplicate name"
check_text check.Undefined = codes "C4 undefined name"
check_text check.Votes = codes "C5 votes"
check_text check.DummyInput = codes "C6 dummy input"
check_text check.NoInputs = codes "C7 no inputs"
check_text check.FdepShape = codes "C8 fdep shape"
check_text check.DependentGate = codes "C9 dependent gate"
check_text check.SpareNotBasic = codes "C10 spare not basic"
check_text check.SharedSpare = codes "C11 shared spare"
check_text check.Replicated = codes "C12 replicated"
check_text check.TopIsFdep = codes "C13 top is fdep"
check_text check.Cycle = codes "C14 cycle"
check_text check.TooManyUnits = codes "C15 too many units"
check_text check.TooManyGates = codes "C16 too many gates"

-- a fault of the crew part: its code, `S1` to `S6`, and what it is
abbrev pub crew_text : CrewCode → List ℕ
crew_text crew.NoCrewPart = codes "S1 no crew part"
crew_text crew.BadLine = codes "S2 bad line"
crew_text crew.DuplicateCrew = codes "S3 duplicate crew"
crew_text crew.RequestBeforeCrew = codes "S4 request before crew"
crew_text crew.TooManyCrews = codes "S5 too many crews"
crew_text crew.TooManyRequests = codes "S6 too many requests"

-- a fault of a deck, whichever part has it: its code and what it is
abbrev pub code_text : FaultCode → List ℕ
code_text (Lex code) = lex_text code
code_text (Expected wanted) = what_text wanted
code_text (Check code) = check_text code
code_text (Crew code) = crew_text code

-- `refused: CODE TEXT at LINE:COLUMN`
abbrev pub fault_line : DeckFault → List ℕ
fault_line fault =
    codes "refused: " ++ code_text fault.code ++ codes " at " ++ decimal fault.place.line ++ codes ":"
    ++ decimal fault.place.column
    ++ codes "\n"

-- the usage line, or the line of a refusal that has no place in the deck
abbrev pub notice_line : Notice → List ℕ
notice_line Usage =
    codes
    "usage: cuts [--most N] [--workers N] | board [--margin N] [--most N] [--workers N] | check | print | diagram [--workers N] | make --number N [--show deck|summary] | help\n"
notice_line ReadFault = codes "refused: read fault\n"
notice_line TooLong = codes "refused: input too long\n"
notice_line ListLimit = codes "refused: list limit 16777216\n"
notice_line OrderLimit = codes "refused: order limit 2000000\n"
