-- Entries that a log can show.
use Rattle.std.specs.Prelude.{◌<◌, List, length}
use Rattle.crew_script.specs.{Dockets.crew_at, declared.dockets.Crew.Crew}
use Rattle.margin_policy.specs.Holders.{NamesCrewBelow}
use Rattle.outage_board.specs.declared.entry.Entry.{Entry}

-- an entry is of a request of one of the crews, and so is the crew that its reply names
pub record IsLogged (crews : List Crew) (entry : Entry) : Type 0 where
  pub crew : entry.crew.0 < length crews
  pub place : entry.place < length (crew_at crews entry.crew.0).docket
  pub reply : NamesCrewBelow (length crews) entry.reply
