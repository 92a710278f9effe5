use Rattle.std.proofs.Common.{◌≡◌, drop}
use Rattle.tree_check.specs.{Said.definitions, Classes.first, Marked.marked_places}
use Rattle.tree_check.proofs.cycles.first_marked.Given as goal

abbrev pub invariant-loop-statement : goal.invariant-loop-statement
invariant-loop-statement l =
    first (marked_places l.marks l.index (definitions (drop l.statement-index l.statements)))
    ≡ first (marked_places l.marks l.index (definitions l.statements))
