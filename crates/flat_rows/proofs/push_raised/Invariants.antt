use Rattle.std.proofs.Common.{◌≡◌, ◌+◌, ◌≤◌, ◌++◌, length, take, vec_len, vec_capacity}
use Rattle.flat_rows.specs.Rows.{raised}
use Rattle.flat_rows.proofs.push_raised.Given as goal

abbrev pub invariant-loop-end : goal.invariant-loop-end
invariant-loop-end g l = record {
  items : l.ends.items ≡ l.fn.ends.items ++ raised l.before (take l.end-index l.more);
  room : vec_len l.ends + length l.more ≤ vec_capacity l.ends + l.end-index;
}
