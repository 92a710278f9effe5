use Rattle.std.proofs.Common.{take}
use Rattle.graph_cycles.specs.Walk.{Closes}
use Rattle.graph_cycles.proofs.walk.seal.Given as goal

abbrev pub invariant-loop-node : goal.invariant-loop-node
invariant-loop-node l = Closes (take l.node-index l.nodes) l.mark l.initial.stages l.stages l.initial.marks l.marks
