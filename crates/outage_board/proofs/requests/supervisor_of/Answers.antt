use Rattle.std.proofs.{Common.arith, lemmas.Grind.common_steps}
use Rattle.outage_board.proofs.requests.supervisor_of.Goals as goal

pub loop-crew-preserved : goal.loop-crew-preserved
loop-crew-preserved c = grind (arith, common_steps)
