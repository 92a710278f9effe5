use Rattle.std.proofs.Common.{◌≡◌, ℕ, take}
use Rattle.replay_semantics.specs.{Spread.step_without, Table.step_in}
use Rattle.replay_semantics.proofs.failures.clear.Given as goal

abbrev pub invariant-loop-node : goal.invariant-loop-node
invariant-loop-node l =
    (node : ℕ) → step_in l.steps node ≡ step_without (take l.node-index l.nodes) l.initial.steps node
