use Rattle.std.proofs.Common.{◌≡◌, ◌≤◌, take, map, length}
use Rattle.std.specs.Prelude.{vec_capacity}
use Rattle.outage_board.specs.Requests.{requests_of}
use Rattle.outage_board.proofs.requests.requests_by.Given as goal

abbrev pub invariant-loop-crew : goal.invariant-loop-crew
invariant-loop-crew l = record {
  made : l.all.items ≡ map (requests_of l.tree) (take l.crew l.dockets);
  room : length l.dockets ≤ vec_capacity l.all;
}
