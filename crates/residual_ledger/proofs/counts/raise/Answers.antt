use Rattle.std.proofs.Common.{get_or, refl, arith}
use Rattle.residual_ledger.proofs.RowLemmas.{one_more-raise_at}
use Rattle.residual_ledger.proofs.counts.raise.Goals as goal

pub loop-place-preserved : goal.loop-place-preserved
loop-place-preserved c =
    let row = c.args.row.now in
    let i = c.loop-place.place-index in
    one_more-raise_at row i (get_or row i 0) c.requires.rising (omega arith) refl
    c.loop-place.invariant (omega (arith, c.requires.within i 0))
