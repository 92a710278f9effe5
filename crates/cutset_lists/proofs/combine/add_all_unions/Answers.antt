use Rattle.std.proofs.Common.{arith}
use Rattle.cutset_lists.proofs.SetLemmas.{AddsProduct-step}
use Rattle.cutset_lists.proofs.combine.add_all_unions.Goals as goal

pub loop-i-preserved : goal.loop-i-preserved
loop-i-preserved c =
    AddsProduct-step c.args.left.now c.args.right.now c.args.sets.now c.loop-i.sets
    c.add_unions.new.sets c.loop-i.i (omega arith) c.row.ensures c.loop-i.invariant c.in_ok-add_unions.ensures
