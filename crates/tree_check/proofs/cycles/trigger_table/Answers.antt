use Rattle.tree_check.proofs.TriggerRows.{HasTriggers-begun, HasTriggers-next}
use Rattle.tree_check.proofs.cycles.trigger_table.Goals as goal
use Rattle.std.proofs.{Common.arith, lemmas.Grind.common_steps}

pub loop-gate-preserved : goal.loop-gate-preserved
loop-gate-preserved c =
    HasTriggers-next c.args.gates.now c.loop-gate.gate-index
    c.loop-gate-test.true c.gate-item.is c.loop-gate.invariant c.in_ok-note_gate.ensures

pub loop-gate-init : goal.loop-gate-init
loop-gate-init c = HasTriggers-begun c.in_ok-table.ensures

pub returns : goal.returns
returns c = grind (arith, common_steps)
