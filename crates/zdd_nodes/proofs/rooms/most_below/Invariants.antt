use Rattle.std.proofs.Common.{ℕ, ◌≤◌, ◌<◌, length}
use Rattle.fault_definitions.specs.Trigger.{below}
use Rattle.zdd_nodes.proofs.rooms.most_below.Given as goal

abbrev pub invariant-loop-number : goal.invariant-loop-number
invariant-loop-number l = record {
  enough : (node : ℕ) → 1 ≤ node → node < l.number → length (below l.tree node) ≤ l.most;
}
