use Rattle.std.proofs.Common.{◌≡◌, drop}
use Rattle.tree_check.specs.{Said.basics, Classes.first, Classes.replicated}
use Rattle.tree_check.proofs.statements.replication.Given as goal

abbrev pub invariant-loop-statement : goal.invariant-loop-statement
invariant-loop-statement l =
    first (replicated (basics (drop l.statement-index l.statements))) ≡ first (replicated (basics l.statements))
