use Rattle.std.proofs.Common.{length, ◌-◌, ◌≡◌, ◌+◌, ◌≤◌, drop}
use Rattle.std.specs.List.{position_or_len}
use Rattle.crew_script.specs.Words.{is_blank}
use Rattle.crew_script.proofs.word.blank_at.Given as goal

abbrev pub invariant-loop-place : goal.invariant-loop-place
invariant-loop-place l = record {
  in_line : l.place ≤ length l.bytes;
  same : l.place + position_or_len is_blank (drop l.place l.bytes) ≡ position_or_len is_blank l.bytes;
}

abbrev pub decreases-loop-place : goal.decreases-loop-place
decreases-loop-place l = length l.bytes - l.place
