use Rattle.std.proofs.Common.{◌≡◌, ◌++◌}
use Rattle.fault_model.proofs.tree.joined.Given as goal

abbrev pub invariant-loop-list : goal.invariant-loop-list
invariant-loop-list l = l.triggers.items ≡ l.fn.triggers.items ++ l.yielded
