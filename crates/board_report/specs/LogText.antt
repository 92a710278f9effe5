-- The log of a board: each entry with its crew, what was asked, in the names that were asked, and the reply.
use Rattle.std.specs.Prelude.{ℕ, ◌+◌, List, [], ◌∷◌, ◌++◌, length, codes, decimal}
use Rattle.std.specs.List.{flat_map}
use Rattle.unit_sets.specs.declared.request.CrewNo.{CrewNo}
use Rattle.crew_script.specs.{Dockets.crew_at, Dockets.ask_at, declared.dockets.Ask.Ask, declared.dockets.Crew.Crew}
use Rattle.crew_script.specs.declared.dockets.Ask.TheVariants.{Take, Return, Margin}
use Rattle.margin_policy.specs.declared.request.Reply.{Reply}
use Rattle.margin_policy.specs.declared.request.Reply.TheVariants.{Granted, Denied, UnknownUnit, AlreadyOut, NotOut}
use Rattle.margin_policy.specs.declared.request.Reply.TheVariants.{HeldBy, NotSupervisor}
use Rattle.outage_board.specs.declared.entry.Entry.{Entry}
use Rattle.text_pieces.specs.Shown.{show, named}

-- the name of a crew
abbrev pub crew_shown : List Crew → CrewNo → List ℕ
crew_shown crews crew = show (crew_at crews crew.0).name

-- what is asked, behind a blank: `take NAMES`, `return NAME` or `margin N`
abbrev pub ask_text : Ask → List ℕ
ask_text (Take names) = codes " take" ++ flat_map named names
ask_text (Return name) = codes " return" ++ named name
ask_text (Margin number) = codes " margin " ++ decimal number

-- `granted`, `denied, cut K`, or a named error, `E1` to `E5`, where a unit is held with the name of its holder
abbrev pub reply_text : List Crew → Reply → List ℕ
reply_text crews Granted = codes "granted"
reply_text crews (Denied number) = codes "denied, cut " ++ decimal number
reply_text crews UnknownUnit = codes "E1 unknown unit"
reply_text crews (AlreadyOut holder) = codes "E2 already out with " ++ crew_shown crews holder
reply_text crews NotOut = codes "E3 not out"
reply_text crews (HeldBy holder) = codes "E4 held by " ++ crew_shown crews holder
reply_text crews NotSupervisor = codes "E5 not supervisor"

-- `N CREW`, with the number of the entry from 1
abbrev pub entry_head : List Crew → ℕ → CrewNo → List ℕ
entry_head crews number crew = decimal number ++ (codes " " ++ crew_shown crews crew)

-- `: REPLY`, which ends the line
abbrev pub entry_end : List Crew → Reply → List ℕ
entry_end crews reply = codes ": " ++ (reply_text crews reply ++ codes "\n")

-- `N CREW take NAMES: REPLY` and the like
abbrev pub entry_line : List Crew → ℕ → Entry → List ℕ
entry_line crews number entry =
    entry_head crews number entry.crew ++ (ask_text (ask_at crews entry.crew.0 entry.place)
    ++ entry_end crews entry.reply)

-- the lines of entries, numbered from this number on
abbrev pub entry_lines : List Crew → ℕ → List Entry → List ℕ
entry_lines crews number [] = []
entry_lines crews number (entry ∷ entries) = entry_line crews number entry ++ entry_lines crews (number + 1) entries

-- `log: N`
abbrev pub log_head : ℕ → List ℕ
log_head count = codes "log: " ++ (decimal count ++ codes "\n")

-- the whole log
abbrev pub log_text : List Crew → List Entry → List ℕ
log_text crews history = log_head (length history) ++ entry_lines crews 1 history
