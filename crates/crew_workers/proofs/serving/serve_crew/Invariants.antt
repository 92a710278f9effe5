use Rattle.std.proofs.Common.{◌≡◌, ◌-◌, length}
use Rattle.crew_workers.specs.Served.{docket_size}
use Rattle.crew_workers.proofs.serving.serve_crew.Given as goal

abbrev pub invariant-loop : goal.invariant-loop
invariant-loop g l = record {
  own : l.pass.board ≡ l.board;
  crew : l.pass.crew ≡ l.initial.pass.crew;
}

abbrev pub decreases-loop : goal.decreases-loop
decreases-loop g l = docket_size l.pass - length l.pass.made
