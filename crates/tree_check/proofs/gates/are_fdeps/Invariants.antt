use Rattle.std.proofs.Common.{◌≡◌, drop, true}
use Rattle.tree_check.specs.Numbered.{is_fdep_in, kept_by, kinds}
use Rattle.tree_check.specs.Classes.{is_empty}
use Rattle.tree_check.proofs.gates.are_fdeps.Given as goal

abbrev pub invariant-loop-input : goal.invariant-loop-input
invariant-loop-input l =
    is_empty (kept_by true (is_fdep_in l.units (kinds l.gates)) (drop l.input-index l.inputs))
    ≡ is_empty (kept_by true (is_fdep_in l.units (kinds l.gates)) l.inputs)
