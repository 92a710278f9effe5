use Rattle.std.proofs.Common.{◌≡◌, take}
use Rattle.fault_model.proofs.ranking.ranks_of.Given as goal

abbrev pub invariant-loop-rank : goal.invariant-loop-rank
invariant-loop-rank l = l.made.items ≡ take l.rank-index l.ranks
