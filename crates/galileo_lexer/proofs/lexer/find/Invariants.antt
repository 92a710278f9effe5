use Rattle.std.proofs.Common.{length, ◌-◌, ◌≡◌, drop}
use Rattle.galileo_lexer.specs.{Lexed.Between, Lexed.lexed, Spot.IsSpot}
use Rattle.galileo_lexer.proofs.lexer.find.Given as goal

abbrev pub invariant-loop-spot : goal.invariant-loop-spot
invariant-loop-spot l = record {
  spot : IsSpot l.spot l.text;
  same : lexed Between l.fn.start (drop l.fn.start.offset l.text) ≡ lexed Between l.spot (drop l.spot.offset l.text);
}

abbrev pub decreases-loop-spot : goal.decreases-loop-spot
decreases-loop-spot l = length l.text - l.spot.offset
