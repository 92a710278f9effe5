use Rattle.std.proofs.{Common.arith, lemmas.Grind.common_steps}
use Rattle.outage_board.proofs.requests.gather.Goals as goal

pub loop-name-preserved : goal.loop-name-preserved
loop-name-preserved c = grind (arith, common_steps)
