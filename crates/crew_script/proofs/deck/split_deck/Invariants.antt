use Rattle.std.proofs.Common.{length, ◌+◌, ◌≡◌, ◌≤◌}
use Rattle.std.specs.List.{list_any}
use Rattle.crew_script.specs.Deck.{is_crews, lines_of, split_by, split_of}
use Rattle.crew_script.specs.Divides.{size_of}
use Rattle.crew_script.proofs.deck.split_deck.Given as goal

-- the lines that are left divide the deck as all its lines do
abbrev pub invariant-loop-row : goal.invariant-loop-row
invariant-loop-row l = record {
  rest : split_by (length l.bytes) l.place l.line l.lines ≡ split_of l.bytes;
  none : list_any is_crews (lines_of l.bytes) ≡ list_any is_crews l.lines;
  size : l.place + size_of l.lines ≡ length l.bytes + 1;
  few : l.line ≤ l.place + 1;
}

abbrev pub decreases-loop-row : goal.decreases-loop-row
decreases-loop-row l = length l.lines
