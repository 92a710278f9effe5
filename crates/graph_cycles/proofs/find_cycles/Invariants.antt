use Rattle.graph_cycles.proofs.Walking.{Visited}
use Rattle.graph_cycles.proofs.find_cycles.Given as goal

abbrev pub invariant-loop-node : goal.invariant-loop-node
invariant-loop-node l = Visited l.graph l.walk l.node
