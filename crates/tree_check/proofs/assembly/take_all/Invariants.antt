use Rattle.std.specs.Vec.Iter.{into_iter_items}
use Rattle.tree_check.proofs.Taking.{IsTaking}
use Rattle.tree_check.proofs.assembly.take_all.Given as goal

abbrev pub invariant-loop-statement : goal.invariant-loop-statement
invariant-loop-statement l = IsTaking l.fn.statements.items (into_iter_items l.statement-iterator) l.taken
