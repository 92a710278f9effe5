use Rattle.std.proofs.{Common.arith, lemmas.Grind.common_steps}
use Rattle.tree_check.proofs.assembly.attributes_of.Goals as goal

pub loop-raw-preserved : goal.loop-raw-preserved
loop-raw-preserved c = grind (arith, common_steps)
