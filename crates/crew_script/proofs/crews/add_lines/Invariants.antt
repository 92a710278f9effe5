use Rattle.std.proofs.Common.{◌≡◌, ◌≤◌, ◌+◌, length}
use Rattle.crew_script.specs.{Crews.crews_from, Deck.lines_of}
use Rattle.crew_script.proofs.crews.add_lines.Given as goal

abbrev pub invariant-loop-row : goal.invariant-loop-row
invariant-loop-row l = record {
  same : crews_from l.line l.fn.crews (lines_of l.bytes) ≡ crews_from l.number l.crews l.lines;
  few : l.number + length l.lines ≤ l.line + length l.bytes + 1;
}

abbrev pub decreases-loop-row : goal.decreases-loop-row
decreases-loop-row l = length l.lines
