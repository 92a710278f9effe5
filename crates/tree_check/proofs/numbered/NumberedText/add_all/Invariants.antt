use Rattle.tree_check.proofs.SoFar.{SoFar}
use Rattle.tree_check.proofs.numbered.NumberedText.add_all.Given as goal

abbrev pub invariant-loop-statement : goal.invariant-loop-statement
invariant-loop-statement l = SoFar l.index l.statements l.statement-index l.self
