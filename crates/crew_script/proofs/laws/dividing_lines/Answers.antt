use Rattle.crew_script.proofs.DividedLemmas.{divides_without_return}
use Rattle.crew_script.proofs.laws.dividing_lines.Goals as goal

pub returns : goal.returns
returns c = divides_without_return
