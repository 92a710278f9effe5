use Rattle.tree_families.proofs.DueSteps.{unions-more, due-to_next_union}
use Rattle.tree_families.proofs.laws.unions_one_by_one.Goals as goal

pub returns-clause-more : goal.returns-clause-more
returns-clause-more c = unions-more

pub returns-clause-due : goal.returns-clause-due
returns-clause-due c = due-to_next_union
