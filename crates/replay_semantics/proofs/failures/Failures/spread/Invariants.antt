use Rattle.std.proofs.Common.{◌≡◌, ◌+◌, ◌-◌, []}
use Rattle.fault_definitions.specs.Tree.{node_count}
use Rattle.replay_semantics.specs.Spread.{HaveMore, Spread, Turn}
use Rattle.replay_semantics.proofs.failures.Failures.spread.Given as goal

abbrev pub invariant-loop-next : goal.invariant-loop-next
invariant-loop-next l = record {
  more : HaveMore l.tree l.initial.self l.self;
  spreads : (turn : Turn) → turn.last ≡ l.at
      → Spread l.tree turn l.initial.self [] l.start → Spread l.tree turn l.self [] l.next;
}

abbrev pub decreases-loop-next : goal.decreases-loop-next
decreases-loop-next l = node_count l.tree + 1 - l.next
