use Rattle.std.proofs.Common.{◌≡◌}
use Rattle.outage_engine.specs.Summaries.{left_of_first}
use Rattle.outage_engine.proofs.summary.serve_crew.Given as goal

abbrev pub invariant-loop : goal.invariant-loop
invariant-loop l = l.board.deck ≡ l.initial.board.deck

abbrev pub decreases-loop : goal.decreases-loop
decreases-loop l = left_of_first l.board
