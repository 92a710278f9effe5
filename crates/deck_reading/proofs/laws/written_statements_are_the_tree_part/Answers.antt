use Rattle.deck_reading.proofs.Dividing.{part_before, part_behind, whole_part}
use Rattle.deck_reading.proofs.laws.written_statements_are_the_tree_part.Goals as goal

pub returns-clause-whole : goal.returns-clause-whole
returns-clause-whole c = whole_part c.decks_are_divided_once.ensures.once

pub returns-clause-before : goal.returns-clause-before
returns-clause-before c =
    λ statements lines good. part_before c.decks_are_divided_once.ensures.once statements good lines

pub returns-clause-behind : goal.returns-clause-behind
returns-clause-behind c =
    λ statements lines good. part_behind c.decks_are_divided_once.ensures.once statements good lines
