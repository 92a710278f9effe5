use Rattle.galileo_tree.specs.Parsed.{lexemes_of}
use Rattle.galileo_tree.proofs.OneWay.{one_way}
use Rattle.galileo_tree.proofs.laws.parses_one_way.Goals as goal

pub returns : goal.returns
returns c = λ text read reads. one_way (lexemes_of text) read reads
