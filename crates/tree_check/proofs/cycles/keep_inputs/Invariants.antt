use Rattle.std.proofs.Common.{◌≡◌, take}
use Rattle.std.specs.Prelude.{filter, not, ◌&&◌}
use Rattle.tree_check.specs.{Numbered.is_fdep_in, Numbered.kinds, TreeOf.numbers}
use Rattle.tree_check.proofs.cycles.keep_inputs.Given as goal

abbrev pub invariant-loop-input : goal.invariant-loop-input
invariant-loop-input l =
    l.row.items ≡ numbers (filter (λ input. not (l.drops && is_fdep_in l.units (kinds l.gates) input.number))
    (take l.input-index l.gate.inputs))
