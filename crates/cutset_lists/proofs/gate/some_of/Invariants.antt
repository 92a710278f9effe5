use Rattle.std.proofs.Common.{take}
use Rattle.cutset_lists.specs.Generation.{AddsSome}
use Rattle.cutset_lists.proofs.gate.some_of.Given as goal

abbrev pub invariant-loop-node : goal.invariant-loop-node
invariant-loop-node l = AddsSome l.lists (take l.node-index l.nodes) l.initial.sets l.sets
