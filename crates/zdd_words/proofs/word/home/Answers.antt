use Rattle.std.proofs.Common.{refl, arith}
use Rattle.zdd_words.specs.Word.{home_of}
use Rattle.zdd_words.proofs.WordLemmas.{home_of-below}
use Rattle.zdd_words.proofs.word.home.Goals as goal

pub returns-clause-value : goal.returns-clause-value
unfolding home_of
returns-clause-value c = refl

pub returns-clause-within : goal.returns-clause-within
unfolding home_of
returns-clause-within c = home_of-below c.args.word c.args.bits (omega arith)
