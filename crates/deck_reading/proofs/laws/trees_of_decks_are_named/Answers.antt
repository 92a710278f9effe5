use Rattle.deck_reading.proofs.DeckNames.{deck_named}
use Rattle.deck_reading.proofs.laws.trees_of_decks_are_named.Goals as goal

pub returns : goal.returns
returns c = deck_named c.tokens_are_spelled.ensures c.parses_its_text.ensures.reading
