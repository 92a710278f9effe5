use Rattle.std.proofs.Common.{◌≡◌, drop}
use Rattle.tree_check.specs.Said.{definitions}
use Rattle.tree_check.specs.Classes.{first, repeats, repeats_after}
use Rattle.tree_check.proofs.naming.repeat_in.Given as goal

abbrev pub invariant-loop-statement : goal.invariant-loop-statement
invariant-loop-statement l =
    first (repeats_after l.index (definitions (drop l.statement-index l.statements))) ≡ first (repeats l.statements)
