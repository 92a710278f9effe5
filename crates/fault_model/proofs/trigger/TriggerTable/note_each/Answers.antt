use Rattle.std.proofs.Common.{ap, subst, sym}
use Rattle.fault_model.specs.{TriggerTable.IsUnitBelow, declared.trigger.TriggerTable.TriggerTable}
use Rattle.std.proofs.lemmas.List.{take_more}
use Rattle.fault_model.proofs.TriggerLemmas.{noted_one}
use Rattle.fault_model.proofs.trigger.TriggerTable.note_each.Goals as goal

pub loop-unit-preserved : goal.loop-unit-preserved
loop-unit-preserved c =
    rw (
      take_more c.args.dependents.now c.loop-unit.unit-index c.unit-item.result c.loop-unit-test.true,
      ←
          c.unit-item.is,
    ) (noted_one c.requires.marks.low c.unit-item.result (subst (IsUnitBelow c.args.units) (sym c.unit-item.is)
    (c.requires.units c.loop-unit.unit-index c.unit-item.result c.loop-unit-test.true)) c.loop-unit.invariant
    (λ known. ap (λ (t : TriggerTable). t.lists.items) (c.in_ok-note_one.ensures.known known))
    (λ known. ap (λ (t : TriggerTable). t.marks.items) (c.in_ok-note_one.ensures.known known))
    c.in_ok-note_one.ensures.lists c.in_ok-note_one.ensures.marks)
