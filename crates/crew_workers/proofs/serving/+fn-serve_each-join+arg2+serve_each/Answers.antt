use Rattle.std.proofs.{Common.arith, lemmas.Grind.common_steps}
use Rattle.crew_workers.proofs.serving.+fn-serve_each-join+arg2+serve_each.Goals as goal

pub returns-clause-own : goal.returns-clause-own
returns-clause-own g t c = grind (arith, common_steps)

pub returns-clause-crews : goal.returns-clause-crews
returns-clause-crews g t c = grind (arith, common_steps)

pub returns-clause-room : goal.returns-clause-room
returns-clause-room g t c = grind (arith, common_steps)

pub returns-clause-served : goal.returns-clause-served
returns-clause-served g t c = grind (arith, common_steps)
