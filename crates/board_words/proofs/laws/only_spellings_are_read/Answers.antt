use Rattle.board_words.proofs.SpellingLemmas.{only_spelling}
use Rattle.board_words.proofs.laws.only_spellings_are_read.Goals as goal

pub returns : goal.returns
returns c = record { spelled = only_spelling }
