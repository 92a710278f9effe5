use Rattle.std.proofs.{Common.subst, Common.All, lemmas.List.take_all, lemmas.List.Elements.All-more}
use Rattle.unit_sets.specs.Unit.{IsUnit}
use Rattle.unit_sets.proofs.unit_no.UnitNo.are_units.Goals as goal

pub loop-unit-preserved : goal.loop-unit-preserved
loop-unit-preserved c =
    All-more IsUnit c.args.units.now c.loop-unit.unit-index c.unit-item.result c.loop-unit-test.true
    c.loop-unit.invariant
    (subst IsUnit c.unit-item.is c.number.ensures.unit)

pub returns : goal.returns
returns c =
    subst (All IsUnit) (take_all c.loop-unit.unit-index c.args.units.now c.loop-unit-test.false) c.loop-unit.invariant
