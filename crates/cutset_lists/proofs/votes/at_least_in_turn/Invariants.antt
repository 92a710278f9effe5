use Rattle.std.proofs.Common.{take, ◌-◌, length}
use Rattle.cutset_lists.specs.Counts.{IsCounting}
use Rattle.cutset_lists.proofs.votes.at_least_in_turn.Given as goal

abbrev pub invariant-loop-i : goal.invariant-loop-i
invariant-loop-i l = IsCounting l.lists (take l.i l.nodes) l.least (l.least - (length l.nodes - l.i)) l.counts.items
