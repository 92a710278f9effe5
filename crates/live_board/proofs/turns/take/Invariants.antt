use Rattle.std.proofs.Common.{◌≡◌}
use Rattle.live_board.specs.Turns.{StaysPlace}
use Rattle.live_board.proofs.turns.take.Given as goal

-- so far somebody else had the turn
abbrev pub invariant-loop : goal.invariant-loop
invariant-loop g l = record {
  stays : StaysPlace l.initial.place l.place;
  waits : l.place.me ≡ l.initial.place.me;
}
