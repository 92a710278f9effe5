use Rattle.many_families.specs.Lists.{families}
use Rattle.minimal_nodes.proofs.GateSteps.{all_of_kinds, first_given, gate_given, gate_gives, never_given}
use Rattle.minimal_nodes.proofs.gates.make_gate.Goals as goal

pub returns-in-Or-clause-gives : goal.returns-in-Or-clause-gives
returns-in-Or-clause-gives c =
    gate_gives c.in-Or.is (families c.args.memory.now c.args.inputs.now) c.args.memory.now
    c.union_in_order.new.memory c.union_in_order.result c.union_in_order.ensures.gives

pub returns-in-Por-clause-gives : goal.returns-in-Por-clause-gives
returns-in-Por-clause-gives c =
    gate_given c.in-Por.is (families c.args.memory.now c.args.inputs.now)
    (first_given c.args.inputs.now c.is_sound.ensures c.requires.has c.first_of.ensures)

pub returns-in-Fdep-clause-gives : goal.returns-in-Fdep-clause-gives
returns-in-Fdep-clause-gives c =
    gate_given c.in-Fdep.is (families c.args.memory.now c.args.inputs.now)
    (never_given (families c.args.memory.now c.args.inputs.now)
    c.is_sound.ensures)

pub returns-in-And-clause-gives : goal.returns-in-And-clause-gives
returns-in-And-clause-gives c =
    all_of_kinds (families c.args.memory.now c.args.inputs.now) c.args.memory.now
    c.product_in_order.new.memory c.product_in_order.result c.in-And.is c.product_in_order.ensures.gives
