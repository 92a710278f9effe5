use Rattle.outage_engine.proofs.Printed.{printed_stands}
use Rattle.outage_engine.proofs.laws.printed_decks_stand_for_their_tree.Goals as goal

pub returns : goal.returns
returns c = printed_stands c.printed_trees_are_read.ensures.again
