use Rattle.std.proofs.Common.{◌≡◌, take}
use Rattle.fault_definitions.specs.FailingOrder.{is_failing}
use Rattle.replay_semantics.proofs.replay.Replay.fails.Given as goal

abbrev pub invariant-loop-unit : goal.invariant-loop-unit
invariant-loop-unit l = record {
  tree : l.self.tree ≡ l.initial.self.tree;
  order : l.self.order ≡ take l.unit-index l.unit-items;
  failing : l.failing ≡ is_failing l.self.tree l.self.order;
}
