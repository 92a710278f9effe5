use Rattle.deck_reading.proofs.Standing.{stands_anywhere}
use Rattle.deck_reading.proofs.laws.trees_are_of_statements_anywhere.Goals as goal

pub returns : goal.returns
returns c = stands_anywhere
