use Rattle.std.proofs.Common.{◌≡◌, ◌++◌, take}
use Rattle.tree_check.proofs.cycles.add_units.Given as goal

abbrev pub invariant-loop-row : goal.invariant-loop-row
invariant-loop-row l = l.graph ≡ l.initial.graph ++ take l.row-index l.table
