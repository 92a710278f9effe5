use Rattle.std.proofs.Common.{◌≡◌, suc, map, take}
use Rattle.fault_model.proofs.ranking.nodes_at.Given as goal

abbrev pub invariant-loop-place : goal.invariant-loop-place
invariant-loop-place l = l.nodes.items ≡ map suc (take l.place-index l.places)
