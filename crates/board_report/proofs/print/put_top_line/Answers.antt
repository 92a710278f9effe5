use Rattle.std.proofs.{Common.arith, lemmas.Grind.common_steps}
use Rattle.board_report.proofs.print.put_top_line.Goals as goal

pub returns-clause-puts : goal.returns-clause-puts
returns-clause-puts g c = grind (arith, common_steps)
