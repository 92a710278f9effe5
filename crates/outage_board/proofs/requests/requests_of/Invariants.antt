use Rattle.std.proofs.Common.{◌≡◌, ◌≤◌, take, map}
use Rattle.std.specs.Prelude.{vec_capacity}
use Rattle.crew_script.specs.Dockets.{crew_at}
use Rattle.outage_board.specs.Requests.{request_of}
use Rattle.outage_board.proofs.requests.requests_of.Given as goal

abbrev pub invariant-loop-place : goal.invariant-loop-place
invariant-loop-place l = record {
  made : l.requests.items ≡ map (request_of l.tree) (take l.place (crew_at l.dockets l.crew.0).docket);
  room : l.count ≤ vec_capacity l.requests;
}
