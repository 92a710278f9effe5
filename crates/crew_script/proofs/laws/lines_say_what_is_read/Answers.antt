use Rattle.crew_script.proofs.Saying.{says_read}
use Rattle.crew_script.proofs.laws.lines_say_what_is_read.Goals as goal

pub returns : goal.returns
returns c = says_read
