use Rattle.crew_script.specs.Deck.{lines_of}
use Rattle.crew_script.proofs.OneWay.{one_answer}
use Rattle.crew_script.proofs.laws.crew_part_has_one_answer.Goals as goal

pub returns : goal.returns
returns c = λ number bytes read answers. one_answer number (lines_of bytes) read answers
