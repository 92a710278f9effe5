use Rattle.std.proofs.Common.{arith}
use Rattle.cutset_lists.proofs.MarkLemmas.{marks_fewer, all_taken_out}
use Rattle.cutset_lists.proofs.marks.unmark.Goals as goal

pub loop-unit-preserved : goal.loop-unit-preserved
loop-unit-preserved c =
    marks_fewer c.args.units.now c.loop-unit.marked c.loop-unit.unit-index
    c.unit-item.result c.loop-unit-test.true c.unit-item.is c.loop-unit.invariant c.remove-there.ensures.after

pub returns : goal.returns
returns c = all_taken_out c.args.units.now c.loop-unit.unit-index (omega arith) c.loop-unit.invariant
