use Rattle.std.proofs.Common.{◌≤◌, ◌+◌, ◌*◌, get_or, arith}
use Rattle.unit_sets.specs.{CutOrder.weight_limit, Unit.most_units}
use Rattle.residual_ledger.proofs.FillingLemmas.{beginning-first, beginning-more, beginning-room}
use Rattle.residual_ledger.proofs.holding.begin_rows.Goals as goal

pub loop-number-init : goal.loop-number-init
loop-number-init c = beginning-first

pub overflow_add-start : goal.overflow_add-start
overflow_add-start c =
    let l = c.loop-number in
    let low : l.start + get_or l.ends l.number 0 ≤ (most_units + 1) * weight_limit =
    beginning-room (omega arith) c.requires.few c.requires.small l.invariant in
    omega arith

pub loop-number-preserved : goal.loop-number-preserved
loop-number-preserved c =
    beginning-more (omega arith) c.loop-number.invariant
