use Rattle.std.proofs.{Common.arith, lemmas.Grind.common_steps}
use Rattle.graph_cycles.proofs.walk.Walk.new.Goals as goal

pub returns-clause-stands : goal.returns-clause-stands
returns-clause-stands c = grind (arith, common_steps)
