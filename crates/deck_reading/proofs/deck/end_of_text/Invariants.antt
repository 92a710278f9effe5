use Rattle.std.proofs.Common.{◌≡◌, ◌≤◌, ◌+◌, drop}
use Rattle.galileo_lexer.specs.Spot.{origin, walk}
use Rattle.deck_reading.proofs.Ends.{spot_at}
use Rattle.deck_reading.proofs.deck.end_of_text.Given as goal

abbrev pub invariant-loop-i : goal.invariant-loop-i
invariant-loop-i l = record {
  same : walk (spot_at l.i l.line l.start) (drop l.i l.bytes) ≡ walk origin l.bytes;
  lines : l.line ≤ l.i + 1;
  starts : l.start ≤ l.i;
}
