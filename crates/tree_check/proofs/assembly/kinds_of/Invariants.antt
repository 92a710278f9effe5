use Rattle.std.proofs.Common.{◌≡◌, take}
use Rattle.tree_check.specs.Numbered.{kinds}
use Rattle.tree_check.proofs.assembly.kinds_of.Given as goal

abbrev pub invariant-loop-gate : goal.invariant-loop-gate
invariant-loop-gate l = l.list ≡ kinds (take l.gate-index l.gates)
