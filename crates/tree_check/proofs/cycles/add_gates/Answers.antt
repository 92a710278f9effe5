use Rattle.std.proofs.lemmas.Grind.{common_steps}
use Rattle.std.proofs.Common.{arith}
use Rattle.std.proofs.Common.{◌∙◌}
use Rattle.tree_check.specs.{Numbered.kept_inputs, Numbered.kinds, TreeOf.numbers}
use Rattle.tree_check.specs.{declared.numbered.NumberedGate.NumberedGate}
use Rattle.tree_check.proofs.Edges.{row_more}
use Rattle.tree_check.proofs.cycles.add_gates.Goals as goal

pub loop-gate-preserved : goal.loop-gate-preserved
loop-gate-preserved c =
    row_more (λ (gate : NumberedGate). numbers (kept_inputs c.args.units (kinds c.args.gates.now) gate))
    c.args.graph.now c.args.gates.now c.loop-gate.gate-index c.loop-gate-test.true c.gate-item.is
    (c.deref.ensures.value ∙ c.in_ok-keep_inputs.ensures)
    c.loop-gate.invariant c.in_ok-push.ensures.ok

pub returns : goal.returns
returns c = grind (arith, common_steps)

pub loop-gate-init : goal.loop-gate-init
loop-gate-init c = grind (arith, common_steps)
