use Rattle.std.proofs.Common.{◌≡◌, true, drop}
use Rattle.replay_semantics.specs.{Admission.is_awaited, Table.step_in}
use Rattle.replay_semantics.proofs.admission.is_awaited.Given as goal

abbrev pub invariant-loop-input : goal.invariant-loop-input
invariant-loop-input l =
    is_awaited (step_in l.steps) l.unit l.failed (drop l.input-index l.inputs)
    ≡ is_awaited (step_in l.steps) l.unit true l.inputs
