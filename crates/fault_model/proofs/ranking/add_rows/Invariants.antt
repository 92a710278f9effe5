use Rattle.std.proofs.Common.{◌≡◌, ◌++◌, map, take}
use Rattle.fault_model.specs.Ranking.{places}
use Rattle.fault_model.proofs.ranking.add_rows.Given as goal

abbrev pub invariant-loop-list : goal.invariant-loop-list
invariant-loop-list l = l.graph ≡ l.fn.graph ++ map places (take l.list-index l.below)
