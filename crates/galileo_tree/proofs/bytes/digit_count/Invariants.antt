use Rattle.std.proofs.Common.{length, ◌-◌, ◌≡◌, ◌+◌, ◌≤◌, drop}
use Rattle.std.specs.{List.prefix_len, Char.is_ascii_digit}
use Rattle.galileo_tree.proofs.bytes.digit_count.Given as goal

abbrev pub invariant-loop-count : goal.invariant-loop-count
invariant-loop-count l = record {
  in_word : l.count ≤ length l.word;
  same : l.count + prefix_len is_ascii_digit (drop l.count l.word) ≡ prefix_len is_ascii_digit l.word;
}

abbrev pub decreases-loop-count : goal.decreases-loop-count
decreases-loop-count l = length l.word - l.count
