use Rattle.std.proofs.Common.{◌≡◌}
use Rattle.outage_board.specs.Turns.{StaysPass}
use Rattle.outage_board.proofs.turns.take.Given as goal

-- so far somebody else had the turn
abbrev pub invariant-loop : goal.invariant-loop
invariant-loop g l = record {
  stays : StaysPass l.initial.place l.place;
  waits : l.place.me ≡ l.initial.place.me;
}
