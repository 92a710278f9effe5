use Rattle.std.proofs.Common.{◌≡◌, ◌+◌, length}
use Rattle.replay_semantics.proofs.replay.Replay.clear.Given as goal

abbrev pub invariant-loop : goal.invariant-loop
invariant-loop l = record {
  tree : l.self.tree ≡ l.initial.self.tree;
  left : length l.self.order + l.counter ≡ length l.initial.self.order;
}
