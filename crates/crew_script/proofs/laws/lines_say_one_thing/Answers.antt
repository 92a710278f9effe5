use Rattle.crew_script.proofs.Saying.{says_one}
use Rattle.crew_script.proofs.laws.lines_say_one_thing.Goals as goal

pub returns : goal.returns
returns c = says_one
