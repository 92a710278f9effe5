use Rattle.std.proofs.Common.{drop}
use Rattle.tree_check.specs.Naming.{names_of}
use Rattle.tree_check.proofs.Differ.{Comes}
use Rattle.tree_check.proofs.naming.add_all.Given as goal

abbrev pub invariant-loop-statement : goal.invariant-loop-statement
invariant-loop-statement l =
    Comes l.initial.index (names_of l.named l.statements) l.index
    (names_of l.named (drop l.statement-index l.statements))
