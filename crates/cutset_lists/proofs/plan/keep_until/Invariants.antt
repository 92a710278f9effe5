use Rattle.std.proofs.Common.{take}
use Rattle.cutset_lists.specs.Plan.{Keeps}
use Rattle.cutset_lists.proofs.plan.keep_until.Given as goal

abbrev pub invariant-loop-node : goal.invariant-loop-node
invariant-loop-node l = Keeps (take l.node-index l.nodes) l.end l.initial.until.items l.until.items
