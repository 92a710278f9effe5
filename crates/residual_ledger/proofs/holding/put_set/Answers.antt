use Rattle.std.proofs.Common.{◌<◌, All, get_or, length, arith}
use Rattle.unit_sets.proofs.CutOrderLemmas.{cut_at as set_at}
use Rattle.residual_ledger.specs.Residual.{cut_at}
use Rattle.residual_ledger.proofs.FillingLemmas.{IsTurn, turn, turn-known, turn-slot, turn-more, turn-last}
use Rattle.residual_ledger.proofs.holding.put_set.Goals as goal

-- it is the turn of the member at which the loop stands
own : (c : goal.After-slice_known-in-loop-unit-1)
    → IsTurn c.args.cuts.now c.args.place c.loop-unit.unit-index c.number-number.result
own c =
    let cuts = c.args.cuts.now in
    let members = c.members-unit-items in
    turn cuts c.requires.there
    (set_at cuts c.args.place members.result.now members.ensures.ordered members.ensures.value) members.ensures.value
    (omega arith) c.unit-item.is c.number-number.ensures.value

known : (c : goal.After-slice_known-in-loop-unit-1)
    → All (λ unit. unit < length c.loop-unit.ends) (cut_at c.args.cuts.now c.args.place)
known c = rw c.loop-unit.auto.ends c.requires.known

-- its row has a free slot
slot : (c : goal.After-slice_known-in-loop-unit-1)
    → get_or c.loop-unit.ends c.number-number.result 0 < length c.loop-unit.rows
slot c = turn-slot c.args.cuts.now (own c) (known c) c.loop-unit.invariant

pub bounds-ends-number-in-loop-unit : goal.bounds-ends-number-in-loop-unit
bounds-ends-number-in-loop-unit c =
    turn-known c.args.cuts.now (own c) (length c.loop-unit.ends) (known c)

pub bounds-rows-end : goal.bounds-rows-end
bounds-rows-end c = omega (arith, slot c)

pub offset_bounds-rows-end : goal.offset_bounds-rows-end
offset_bounds-rows-end c = omega (arith, slot c)

pub overflow_add-ends : goal.overflow_add-ends
overflow_add-ends c = omega (arith, slot c)

pub loop-unit-preserved : goal.loop-unit-preserved
loop-unit-preserved c = turn-more c.args.cuts.now (own c) (known c) c.loop-unit.invariant

pub returns : goal.returns
returns c =
    turn-last c.args.cuts.now c.args.place c.loop-unit.unit-index c.members-unit-items.result.now
    c.members-unit-items.ensures.value (omega arith) c.loop-unit.invariant
