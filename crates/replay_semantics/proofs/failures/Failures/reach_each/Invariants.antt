use Rattle.std.proofs.Common.{◌≡◌, ℕ, drop}
use Rattle.replay_semantics.specs.Spread.{HaveMore, Spread, Turn}
use Rattle.replay_semantics.proofs.failures.Failures.reach_each.Given as goal

abbrev pub invariant-loop-node : goal.invariant-loop-node
invariant-loop-node l = record {
  more : HaveMore l.tree l.initial.self l.self;
  spreads : (turn : Turn) (next : ℕ) → turn.last ≡ l.at
      → Spread l.tree turn l.initial.self l.nodes next
      → Spread l.tree turn l.self (drop l.node-index l.nodes) next;
}
