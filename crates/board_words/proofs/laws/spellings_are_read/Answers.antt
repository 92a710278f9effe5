use Rattle.board_words.proofs.SpellingLemmas.{spelling_read}
use Rattle.board_words.proofs.laws.spellings_are_read.Goals as goal

pub returns : goal.returns
returns c = record { read = spelling_read }
