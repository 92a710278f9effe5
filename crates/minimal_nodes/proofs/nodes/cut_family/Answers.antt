use Rattle.std.proofs.Common.{arith}
use Rattle.fault_definitions.specs.Tree.{IsGateOf, IsUnitOf}
use Rattle.many_families.specs.Lists.{families}
use Rattle.minimal_nodes.proofs.GateSteps.{gate_node, unit_node}
use Rattle.minimal_nodes.proofs.nodes.cut_family.Goals as goal

pub returns-then-number-units-clause-gives : goal.returns-then-number-units-clause-gives
returns-then-number-units-clause-gives c =
    let is_gate : IsGateOf c.args.tree.now c.args.node = (omega arith, c.requires.node.1) in
    gate_node c.units.ensures.kept c.args.node c.requires.node
    (families c.args.memory.now c.args.list.now) c.requires.stand c.args.memory.now c.make_gate.new.memory
    c.kind.ensures is_gate c.make_gate.result c.make_gate.ensures.gives

pub returns-clause-gives : goal.returns-clause-gives
returns-clause-gives c =
    let node = c.args.node in
    let is_unit : IsUnitOf c.args.tree.now node = (c.requires.node.0, omega arith) in
    unit_node c.units.ensures.kept node c.requires.node (families c.args.memory.now c.args.list.now)
    c.requires.stand c.args.memory.now c.make_unit.new.memory c.unit.ensures is_unit c.make_unit.result
    c.make_unit.ensures.gives
