use Rattle.board_words.proofs.SpellingLemmas.{only_spelling, within_bounds}
use Rattle.board_words.proofs.laws.numbers_are_within_bounds.Goals as goal

pub returns : goal.returns
returns c = record { within = λ command words e. within_bounds (only_spelling command words e) }
