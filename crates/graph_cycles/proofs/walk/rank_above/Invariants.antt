use Rattle.std.proofs.Common.{◌≡◌, max, drop}
use Rattle.graph_cycles.specs.Graph.{rank_over}
use Rattle.graph_cycles.proofs.walk.rank_above.Given as goal

abbrev pub invariant-loop-node : goal.invariant-loop-node
invariant-loop-node l = max l.rank (rank_over l.ranks (drop l.node-index l.nodes)) ≡ rank_over l.ranks l.nodes
