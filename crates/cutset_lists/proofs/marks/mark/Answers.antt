use Rattle.cutset_lists.proofs.MarkLemmas.{set_more}
use Rattle.cutset_lists.proofs.marks.mark.Goals as goal

pub loop-unit-preserved : goal.loop-unit-preserved
loop-unit-preserved c =
    set_more c.args.marked.now c.args.units.now c.loop-unit.marked
    c.loop-unit.unit-index c.unit-item.result c.loop-unit-test.true c.unit-item.is c.loop-unit.invariant
    c.insert-fresh.ensures.after
