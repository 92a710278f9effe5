use Rattle.galileo_lexer.specs.Spot.{origin}
use Rattle.galileo_lexer.proofs.Sound.{reads}
use Rattle.galileo_lexer.proofs.laws.reads_its_text.Goals as goal

pub returns : goal.returns
returns c = λ text. reads origin text
