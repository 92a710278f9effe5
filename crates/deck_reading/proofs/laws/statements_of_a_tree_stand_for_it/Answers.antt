use Rattle.deck_reading.specs.TreeStatements.{statements_of}
use Rattle.deck_reading.proofs.TreeStands.{all_good, stands}
use Rattle.deck_reading.proofs.laws.statements_of_a_tree_stand_for_it.Goals as goal

pub returns-clause-good : goal.returns-clause-good
returns-clause-good c = all_good

pub returns-clause-stands : goal.returns-clause-stands
returns-clause-stands c = stands

pub returns-clause-read : goal.returns-clause-read
returns-clause-read c = λ tree kept names.
    c.written_statements_stand_for_their_tree.ensures.alone (statements_of tree) tree (all_good tree kept names)
    (stands tree kept) kept

pub returns-clause-again : goal.returns-clause-again
returns-clause-again c = λ bytes tree found.
    let names = c.trees_of_decks_are_named.ensures bytes tree found in
    c.written_statements_stand_for_their_tree.ensures.alone (statements_of tree) tree (all_good tree found.kept names)
    (stands tree found.kept) found.kept
