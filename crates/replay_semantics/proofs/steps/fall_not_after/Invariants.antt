use Rattle.std.proofs.Common.{◌≡◌, drop}
use Rattle.replay_semantics.specs.{Failing.falls_not_after, Table.step_in}
use Rattle.replay_semantics.proofs.steps.fall_not_after.Given as goal

abbrev pub invariant-loop-node : goal.invariant-loop-node
invariant-loop-node l =
    falls_not_after (step_in l.steps) l.before (drop l.node-index l.nodes)
    ≡ falls_not_after (step_in l.steps) l.initial.before l.nodes
