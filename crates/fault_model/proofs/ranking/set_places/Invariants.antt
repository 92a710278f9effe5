use Rattle.std.proofs.Common.{◌≡◌, take}
use Rattle.fault_model.specs.Ranking.{places}
use Rattle.fault_model.proofs.ranking.set_places.Given as goal

abbrev pub invariant-loop-node : goal.invariant-loop-node
invariant-loop-node l = l.row.items ≡ places (take l.node-index l.nodes)
