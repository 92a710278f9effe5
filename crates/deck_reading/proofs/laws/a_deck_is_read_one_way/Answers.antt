use Rattle.deck_reading.proofs.OneDeck.{no_deck_and_fault, one_fault, same_crews, same_deck_tree}
use Rattle.deck_reading.proofs.SomeDeck.{deck_or_fault}
use Rattle.deck_reading.proofs.laws.a_deck_is_read_one_way.Goals as goal

pub returns-clause-some : goal.returns-clause-some
returns-clause-some c =
    deck_or_fault c.parses_its_text.ensures.reading c.parses_its_text.ensures.form c.some_tree_or_some_fault.ensures
    c.crews_or_first_fault.ensures

pub returns-clause-one_deck : goal.returns-clause-one_deck
returns-clause-one_deck c = λ part bytes one two crews others deck deck'.
    (same_deck_tree deck.stands deck'.stands, same_crews part bytes deck.said deck'.said)

pub returns-clause-one_fault : goal.returns-clause-one_fault
returns-clause-one_fault c = one_fault

pub returns-clause-not_both : goal.returns-clause-not_both
returns-clause-not_both c = λ part bytes (tree, crews, deck) (fault, refused).
    no_deck_and_fault part bytes tree crews fault deck refused
