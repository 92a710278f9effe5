use Rattle.std.proofs.Common.{length, ◌-◌, ◌≡◌, ◌<◌, drop, false}
use Rattle.galileo_lexer.specs.{Spot.IsSpot, Lexed.InBlock, Lexed.lexed}
use Rattle.galileo_lexer.proofs.constructs.block_end.Given as goal

abbrev pub invariant-loop-spot : goal.invariant-loop-spot
invariant-loop-spot l = record {
  spot : IsSpot l.spot l.text;
  begun : l.start.offset < l.spot.offset;
  same : lexed (InBlock l.start false) l.fn.inside (drop l.fn.inside.offset l.text)
      ≡ lexed (InBlock l.start l.starred) l.spot (drop l.spot.offset l.text);
}

abbrev pub decreases-loop-spot : goal.decreases-loop-spot
decreases-loop-spot l = length l.text - l.spot.offset
