use Rattle.std.proofs.Common.{length, ◌-◌, ◌≡◌, ◌+◌, ◌≤◌, drop}
use Rattle.std.specs.List.{prefix_len}
use Rattle.crew_script.specs.Words.{is_blank}
use Rattle.crew_script.proofs.word.blanks.Given as goal

abbrev pub invariant-loop-count : goal.invariant-loop-count
invariant-loop-count l = record {
  in_line : l.count ≤ length l.bytes;
  same : l.count + prefix_len is_blank (drop l.count l.bytes) ≡ prefix_len is_blank l.bytes;
}

abbrev pub decreases-loop-count : goal.decreases-loop-count
decreases-loop-count l = length l.bytes - l.count
