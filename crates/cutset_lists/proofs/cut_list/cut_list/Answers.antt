use Rattle.std.proofs.Common.{arith}
use Rattle.cutset_lists.proofs.CutLemmas.{next_in_order}
use Rattle.cutset_lists.proofs.cut_list.cut_list.Goals as goal

pub push-requires-clause-after_last : goal.push-requires-clause-after_last
push-requires-clause-after_last c =
    next_in_order c.args.sets.now c.loop-i.cuts c.loop-i.i c.requires.ordered (omega arith)
    c.row.ensures c.loop-i.invariant.pushed
