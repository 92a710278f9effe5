use Rattle.std.proofs.Common.{take}
use Rattle.tree_check.specs.{TreeOf.numbers, Triggers.Notes}
use Rattle.tree_check.proofs.cycles.note.Given as goal

abbrev pub invariant-loop-dependent : goal.invariant-loop-dependent
invariant-loop-dependent l =
    Notes l.trigger (numbers (take l.dependent-index l.dependents)) l.initial.table.items l.table.items
