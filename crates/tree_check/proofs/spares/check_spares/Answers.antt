use Rattle.tree_check.proofs.DeckParts.{parts_within}
use Rattle.tree_check.proofs.spares.check_spares.Goals as goal

pub shared-requires-clause-numbers : goal.shared-requires-clause-numbers
shared-requires-clause-numbers c = parts_within c.requires
