-- What the lines of a crew part say, and the crews with their requests that come of it.
use Rattle.std.specs.Prelude.{◌≡◌, ℕ, ◌+◌, nat_le, if◌then◌else◌, List, [], ◌∷◌, ◌++◌, length, Result, Ok, Err}
use Rattle.std.specs.Prelude.{Option, Some, None}
use Rattle.crew_script.specs.{Deck.lines_of, Words.words_of, Lines.line_of, Dockets.names_of, Dockets.request_count}
use Rattle.crew_script.specs.{declared.dockets.TheConstants.MOST_CREWS, declared.dockets.TheConstants.MOST_REQUESTS}
use Rattle.crew_script.specs.{declared.dockets.Ask.Ask, declared.dockets.Crew.Crew, declared.line.Line.Line}
use Rattle.crew_script.specs.{declared.fault.CrewCode.CrewCode, declared.fault.CrewFault.CrewFault}
use Rattle.crew_script.specs.{declared.fault.CrewFault.TheVariants.Fault, declared.fault.CrewFault.TheVariants.NoMemory}
use Rattle.fault_words.specs.Names.{has_name}
use Rattle.crew_script.specs.declared.line.Line.TheVariants as line
use Rattle.crew_script.specs.declared.fault.CrewCode.TheVariants.{BadLine, DuplicateCrew, RequestBeforeCrew}
use Rattle.crew_script.specs.declared.fault.CrewCode.TheVariants.{TooManyCrews, TooManyRequests}

-- one more request of the last crew
abbrev pub with_ask : Ask → List Crew → List Crew
with_ask ask [] = []
with_ask ask (crew ∷ []) = record crew { docket = crew.docket ++ ask ∷ [] } ∷ []
with_ask ask (crew ∷ next ∷ crews) = crew ∷ with_ask ask (next ∷ crews)

-- the crews behind a line
abbrev pub after : List Crew → Line → List Crew
after crews line.Nothing = crews
after crews line.Bad = crews
after crews (line.Crew name) = crews ++ record { name = name; docket = [] } ∷ []
after crews (line.Request ask) = with_ask ask crews

-- the fault of a line of a crew behind these crews
abbrev pub crew_fault : List Crew → List ℕ → Option CrewCode
crew_fault crews name =
    if has_name (names_of crews) name then Some DuplicateCrew
    else (if nat_le MOST_CREWS (length crews) then Some TooManyCrews else None)

-- the fault of a request behind these crews
abbrev pub request_fault : List Crew → Option CrewCode
request_fault [] = Some RequestBeforeCrew
request_fault (crew ∷ crews) = if nat_le MOST_REQUESTS (request_count (crew ∷ crews)) then Some TooManyRequests
    else None

-- the fault of a line behind these crews
abbrev pub fault_behind : List Crew → Line → Option CrewCode
fault_behind crews line.Nothing = None
fault_behind crews line.Bad = Some BadLine
fault_behind crews (line.Crew name) = crew_fault crews name
fault_behind crews (line.Request ask) = request_fault crews

-- a fault is told by the number of its line, at the first column
abbrev pub fault_at : CrewCode → ℕ → CrewFault
fault_at code number = Fault code (record { line = number; column = 1 })

-- a line's fault, or what comes of the lines behind it
abbrev pub unless_fault : ℕ → Option CrewCode → Result (List Crew) CrewFault → Result (List Crew) CrewFault
unless_fault number None more = more
unless_fault number (Some code) more = Err (fault_at code number)

-- what a line says
abbrev pub said : List ℕ → Line
said bytes = line_of (words_of bytes)

-- what comes of lines behind crews: the crews then, or the first line's fault that has one
abbrev pub crews_from : ℕ → List Crew → List (List ℕ) → Result (List Crew) CrewFault
crews_from number crews [] = Ok crews
crews_from number crews (bytes ∷ lines) =
    unless_fault number (fault_behind crews (said bytes)) (crews_from (number + 1) (after crews (said bytes)) lines)

-- what a crew part says whose first line has this number. Where its last byte is a line feed, an empty line follows
-- in the list, which says nothing.
abbrev pub crews_of : ℕ → List ℕ → Result (List Crew) CrewFault
crews_of number bytes = crews_from number [] (lines_of bytes)

-- unless memory ran out the fault is the one that is read
abbrev pub FailsAs : CrewFault → Result (List Crew) CrewFault → Type 0
FailsAs NoMemory read = Unit {0}
FailsAs (Fault code place) read = read ≡ Err (Fault code place)
