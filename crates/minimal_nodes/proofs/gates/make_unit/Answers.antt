use Rattle.minimal_nodes.proofs.GateSteps.{unit_gives, unit_spent}
use Rattle.minimal_nodes.proofs.gates.make_unit.Goals as goal

pub returns-clause-gives : goal.returns-clause-gives
returns-clause-gives c =
    unit_gives c.args.unit c.args.triggers.now c.is_sound.ensures c.in_ok-others.ensures.gives c.in_ok-own.ensures.gives
    c.union.new.memory c.union.result c.union.ensures.gives

pub returns-clause-spent : goal.returns-clause-spent
returns-clause-spent c =
    unit_spent c.args.unit c.args.triggers.now c.is_sound.ensures c.in_ok-others.ensures.gives c.in_ok-own.ensures.gives
    c.union.new.memory c.union.result c.union.ensures.spent
