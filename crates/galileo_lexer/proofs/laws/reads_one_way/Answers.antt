use Rattle.galileo_lexer.proofs.Runs.{only}
use Rattle.galileo_lexer.proofs.laws.reads_one_way.Goals as goal

pub returns : goal.returns
returns c = λ text read reads. only reads.2
