use Rattle.std.proofs.Common.{◌≡◌, ◌++◌, map, take}
use Rattle.tree_check.specs.{TreeOf.numbers, Numbered.kept_inputs, Numbered.kinds}
use Rattle.tree_check.proofs.cycles.add_gates.Given as goal

abbrev pub invariant-loop-gate : goal.invariant-loop-gate
invariant-loop-gate l =
    l.graph ≡ l.initial.graph ++ map (λ gate. numbers (kept_inputs l.units (kinds l.gates) gate))
    (take l.gate-index l.gates)
