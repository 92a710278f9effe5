use Rattle.std.proofs.Common.{take}
use Rattle.cutset_lists.specs.Generation.{Follows, each_rule}
use Rattle.cutset_lists.proofs.gate.each_in_turn.Given as goal

abbrev pub invariant-loop-node : goal.invariant-loop-node
invariant-loop-node l = Follows l.lists (each_rule (take l.node-index l.nodes)) l.sets
