use Rattle.std.proofs.Common.{◌≡◌, ◌≤◌, true, [], length}
use Rattle.fault_words.specs.Names.{all_differ}
use Rattle.crew_script.specs.Lines.{take_line}
use Rattle.crew_script.proofs.line.take.Given as goal

abbrev pub invariant-loop-word : goal.invariant-loop-word
invariant-loop-word l = record {
  same : take_line [] l.fn.words ≡ take_line l.names.items l.words;
  few : length l.names.items ≤ 16;
  differ : all_differ l.names.items ≡ true;
}

abbrev pub decreases-loop-word : goal.decreases-loop-word
decreases-loop-word l = length l.words
