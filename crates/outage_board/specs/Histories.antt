-- Histories of a board: which are legal, and which are whole.
use Rattle.std.specs.Prelude.{◌≡◌, ℕ, ◌<◌, ◌≤◌, ◌==◌, List, [], ◌∷◌, map, length, take, get_or, if◌then◌else◌}
use Rattle.std.specs.List.{All, enumerate_from}
use Rattle.margin_policy.specs.Standing.{StandingView, reply_of, after}
use Rattle.margin_policy.specs.declared.request.Request.{Request}
use Rattle.outage_board.specs.declared.entry.Entry.{Entry}

-- the standing after an entry: after the request of its crew with the reply that it got
abbrev pub after_entry : StandingView → Entry → StandingView
after_entry standing entry = after standing entry.crew entry.request entry.reply

-- what a history leaves of a standing
abbrev pub standing_after : StandingView → List Entry → StandingView
standing_after standing [] = standing
standing_after standing (entry ∷ entries) = standing_after (after_entry standing entry) entries

-- each reply is the decision at what the entries before it leave
abbrev pub IsLegal : StandingView → List Entry → Type 0
IsLegal standing [] = Unit {0}
IsLegal standing (entry ∷ entries) = (entry.reply ≡ reply_of standing entry.crew entry.request)
    × IsLegal (after_entry standing entry) entries

-- the entries of one crew, in order
abbrev pub entries_of : ℕ → List Entry → List Entry
entries_of crew [] = []
entries_of crew (entry ∷ entries) = if entry.crew.0 == crew then entry ∷ entries_of crew entries
    else entries_of crew entries

-- how many requests of a crew were served
abbrev pub served : ℕ → List Entry → ℕ
served crew history = length (entries_of crew history)

-- the requests of a crew, where each crew's are given. There are none of a number of no crew.
abbrev pub docket_of : List (List Request) → ℕ → List Request
docket_of dockets crew = get_or dockets crew []

-- what was asked, each request with its place
abbrev pub asked_by : List Entry → List (ℕ × Request)
asked_by entries = map (λ (entry : Entry). (entry.place, entry.request)) entries

-- The entries of each crew are so many first requests of its docket, each once and in order, with places from 0 on;
-- and all entries are of the dockets' crews.
pub record IsWholeUpTo (dockets : List (List Request)) (count : ℕ → ℕ) (history : List Entry) : Type 0 where
  pub crews : All (λ (entry : Entry). entry.crew.0 < length dockets) history
  pub within : (crew : ℕ) → count crew ≤ length (docket_of dockets crew)
  pub each : (crew : ℕ) → asked_by (entries_of crew history)
      ≡ enumerate_from 0 (take (count crew) (docket_of dockets crew))

-- up to the end of each docket
abbrev pub IsWhole : List (List Request) → List Entry → Type 0
IsWhole dockets history = IsWholeUpTo dockets (λ crew. length (docket_of dockets crew)) history
