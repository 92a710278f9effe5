use Rattle.std.proofs.Common.{◌≡◌, ℕ, ◌<◌, length, get_or}
use Rattle.zdd_nodes.specs.Reading.{reference_of}
use Rattle.zdd_nodes.proofs.rooms.gather.Given as goal

abbrev pub invariant-loop-i : goal.invariant-loop-i
invariant-loop-i l = record {
  size : length l.list ≡ length l.initial.list;
  gathered : (k : ℕ) → k < l.i → get_or l.list k 0 ≡ reference_of l.references (get_or l.nodes k 0);
}
