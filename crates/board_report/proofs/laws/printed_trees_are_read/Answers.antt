use Rattle.std.proofs.Common.{subst, sym}
use Rattle.deck_reading.specs.Deck.{StandsFor}
use Rattle.board_report.proofs.PrintedTrees.{text_is}
use Rattle.board_report.proofs.laws.printed_trees_are_read.Goals as goal

pub returns-clause-text : goal.returns-clause-text
returns-clause-text c = text_is

pub returns-clause-read : goal.returns-clause-read
returns-clause-read c = λ tree kept names.
    subst (λ text. StandsFor text tree) (sym (text_is tree))
    (c.statements_of_a_tree_stand_for_it.ensures.read tree kept names)

pub returns-clause-again : goal.returns-clause-again
returns-clause-again c = λ bytes tree found.
    subst (λ text. StandsFor text tree) (sym (text_is tree))
    (c.statements_of_a_tree_stand_for_it.ensures.again bytes tree found)
