use Rattle.std.proofs.Common.{◌≡◌, ◌≤◌, ℕ, sym, ◌∙◌, arith}
use Rattle.unit_sets.specs.UnitList.{among}
use Rattle.residual_ledger.proofs.ResidualLemmas.{asked_so_far-le, asked-more, found_one, found_none}
use Rattle.residual_ledger.proofs.ledger.count_asked.Goals as goal
use Rattle.residual_ledger.proofs.ledger.count_asked.Goals.{then-contains, else-contains}

pub overflow_add-count : goal.overflow_add-count
overflow_add-count c =
    let low : c.loop-unit.count ≤ c.loop-unit.unit-index =
    asked_so_far-le c.args.asked.now c.args.members.now c.loop-unit.unit-index c.loop-unit.invariant in
    omega (arith, c.requires.few)

pub loop-unit-preserved : goal.loop-unit-preserved
loop-unit-preserved c =
    let asked = c.args.asked.now in
    let item : ℕ = c.unit-item.result in
    let found : c.contains.result ≡ among asked item = c.contains.ensures.value in
    asked-more asked c.args.members.now c.loop-unit.unit-index (omega arith) c.unit-item.is c.loop-unit.invariant
    (elim c.if-contains.branch [
      | then-contains w ↦ found_one (among asked item) c.loop-unit.count (sym found ∙ w.if-contains.true) w.count-is
      | else-contains w ↦ found_none (among asked item) (sym found ∙ w.if-contains.false) w.count-is
    ])
