use Rattle.std.proofs.Common.{◌≤◌, ◌<◌, ◌-◌, length, get_or, refl, arith}
use Rattle.residual_ledger.proofs.{RowLemmas.in_order, BlockLemmas.not_empty, BlockLemmas.outside_ends}
use Rattle.residual_ledger.proofs.blocks.Blocks.refresh.Goals as goal

pub refresh_between-requires-clause-order : goal.refresh_between-requires-clause-order
refresh_between-requires-clause-order c =
    let row = c.args.row.now in
    let some : 0 < length row = not_empty row c.is_empty.ensures c.if-not-is_empty.true in
    let order : get_or row 0 0 ≤ get_or row (length row - 1) 0 =
    in_order row 0 (length row - 1) c.requires.rising (omega arith) (omega arith) in
    omega arith

pub refresh_between-requires-clause-least : goal.refresh_between-requires-clause-least
refresh_between-requires-clause-least c =
    outside_ends c.requires.rising refl refl c.requires.least
