use Rattle.std.proofs.Common.{◌≡◌, drop}
use Rattle.tree_check.specs.{Numbered.is_fdep_in, Numbered.kinds, Classes.first, Classes.places_where}
use Rattle.tree_check.proofs.gates.fdep_among.Given as goal

abbrev pub invariant-loop-input : goal.invariant-loop-input
invariant-loop-input l =
    first (places_where (is_fdep_in l.units (kinds l.gates)) (drop l.input-index l.inputs))
    ≡ first (places_where (is_fdep_in l.units (kinds l.gates)) l.inputs)
