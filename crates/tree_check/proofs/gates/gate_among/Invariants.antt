use Rattle.std.proofs.Common.{◌≡◌, drop}
use Rattle.tree_check.specs.{Numbered.is_gate, Classes.first, Classes.places_where}
use Rattle.tree_check.proofs.gates.gate_among.Given as goal

abbrev pub invariant-loop-input : goal.invariant-loop-input
invariant-loop-input l =
    first (places_where (is_gate l.units) (drop l.input-index l.inputs))
    ≡ first (places_where (is_gate l.units) l.inputs)
