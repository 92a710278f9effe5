use Rattle.std.proofs.Common.{◌≡◌, take, map}
use Rattle.tree_check.specs.{Numbered.kinds, Numbered.kept_inputs, TreeOf.numbers}
use Rattle.tree_check.proofs.assembly.input_lists.Given as goal

abbrev pub invariant-loop-gate : goal.invariant-loop-gate
invariant-loop-gate l =
    l.lists ≡ map (λ gate. numbers (kept_inputs l.units (kinds l.gates) gate)) (take l.gate-index l.gates)
