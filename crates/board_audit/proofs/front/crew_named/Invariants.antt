use Rattle.std.proofs.Common.{◌≡◌, drop}
use Rattle.outage_board.specs.Requests.{crew_from}
use Rattle.board_audit.proofs.front.crew_named.Given as goal

abbrev pub invariant-loop-crew : goal.invariant-loop-crew
invariant-loop-crew l = crew_from 0 l.dockets l.name ≡ crew_from l.crew (drop l.crew l.dockets) l.name
