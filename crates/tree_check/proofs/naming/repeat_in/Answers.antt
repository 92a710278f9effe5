use Rattle.std.proofs.{Common.arith, lemmas.Grind.common_steps}
use Rattle.tree_check.proofs.naming.repeat_in.Goals as goal

pub loop-statement-preserved : goal.loop-statement-preserved
loop-statement-preserved c = grind (arith, common_steps)
