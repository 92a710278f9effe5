use Rattle.graph_cycles.proofs.Below.{AreNodesBefore}
use Rattle.graph_cycles.proofs.is_graph.Given as goal

abbrev pub invariant-loop-x : goal.invariant-loop-x
invariant-loop-x l = AreNodesBefore l.graph l.x
