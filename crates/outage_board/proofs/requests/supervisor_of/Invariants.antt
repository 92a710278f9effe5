use Rattle.std.proofs.Common.{◌≡◌, drop}
use Rattle.std.specs.Prelude.{codes}
use Rattle.outage_board.specs.Requests.{supervisor_of, crew_from}
use Rattle.outage_board.proofs.requests.supervisor_of.Given as goal

abbrev pub invariant-loop-crew : goal.invariant-loop-crew
invariant-loop-crew l = supervisor_of l.dockets ≡ crew_from l.crew (drop l.crew l.dockets) (codes "supervisor")
