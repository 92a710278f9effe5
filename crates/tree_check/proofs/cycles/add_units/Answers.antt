use Rattle.std.proofs.{Common.arith, lemmas.Grind.common_steps}
use Rattle.tree_check.proofs.cycles.add_units.Goals as goal

pub loop-row-preserved : goal.loop-row-preserved
loop-row-preserved c = grind (arith, common_steps)
