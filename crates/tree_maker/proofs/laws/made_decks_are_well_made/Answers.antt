use Rattle.tree_maker.proofs.Making.{well_made}
use Rattle.tree_maker.proofs.laws.made_decks_are_well_made.Goals as goal

pub returns : goal.returns
returns c number =
    well_made number c.some_tree_or_some_fault.ensures c.crew_part_has_one_answer.ensures
    c.written_statements_are_the_tree_part.ensures.behind
    c.written_statements_stand_for_their_tree.ensures.with_crews
