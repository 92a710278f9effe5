use Rattle.std.proofs.{Common.arith, lemmas.Grind.common_steps}
use Rattle.tree_check.proofs.cycles.note.Goals as goal

pub loop-dependent-preserved : goal.loop-dependent-preserved
loop-dependent-preserved c = grind (arith, common_steps)

pub returns : goal.returns
returns c = grind (arith, common_steps)
