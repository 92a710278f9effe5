use Rattle.std.proofs.Common.{◌≡◌, get_or, ◌∙◌, arith}
use Rattle.std.proofs.lemmas.List.{get_or_read}
use Rattle.residual_ledger.proofs.RowLemmas.{one_more-raise_at}
use Rattle.residual_ledger.proofs.holding.count_members.Goals as goal

pub loop-unit-preserved : goal.loop-unit-preserved
loop-unit-preserved c =
    let members = c.args.members.now in
    let sizes = c.loop-unit.sizes in
    let i = c.loop-unit.unit-index in
    let at : c.number.result ≡ get_or members i 0 =
    c.number.ensures.value ∙ get_or_read members i c.unit-item.result (omega arith) c.unit-item.is 0 in
    one_more-raise_at members i c.number.result c.requires.rising (omega arith) at
    c.loop-unit.invariant (omega (arith, at, c.requires.known i 0))
