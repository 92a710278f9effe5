use Rattle.std.proofs.Common.{subst}
use Rattle.std.proofs.lemmas.List.{take_all}
use Rattle.std.proofs.lemmas.List.Elements.{All-more}
use Rattle.std.specs.Prelude.{All}
use Rattle.fault_definitions.specs.Tree.{IsUnitOf}
use Rattle.board_tests.proofs.wave_planner_tests.are_of.Goals as goal

pub loop-unit-preserved : goal.loop-unit-preserved
loop-unit-preserved c =
    All-more (IsUnitOf c.args.tree.now) c.args.units.now c.loop-unit.unit-index c.unit-item.result
    c.loop-unit-test.true c.loop-unit.invariant
    (subst (IsUnitOf c.args.tree.now) c.unit-item.is (c.is_unit_of.ensures c.if-not-is_unit_of.false))

pub returns : goal.returns
returns c is =
    subst (All (IsUnitOf c.args.tree.now))
    (take_all c.loop-unit.unit-index c.args.units.now c.loop-unit-test.false) c.loop-unit.invariant
