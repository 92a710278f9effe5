use Rattle.std.proofs.Common.{length, ◌-◌, ◌≡◌, ◌≤◌, drop}
use Rattle.galileo_lexer.specs.{Spot.along, Lexed.InLine, Lexed.lexed}
use Rattle.galileo_lexer.proofs.constructs.line_end.Given as goal

abbrev pub invariant-loop-end : goal.invariant-loop-end
invariant-loop-end l = record {
  in_text : l.end ≤ length l.text;
  begun : l.start.offset ≤ l.end;
  same : lexed InLine l.start (drop l.start.offset l.text) ≡ lexed InLine (along l.start l.end) (drop l.end l.text);
}

abbrev pub decreases-loop-end : goal.decreases-loop-end
decreases-loop-end l = length l.text - l.end
