use Rattle.tree_families.proofs.DueSteps.{products-more, due-to_next_product, due-to_next_minimal}
use Rattle.tree_families.proofs.laws.products_one_by_one.Goals as goal

pub returns-clause-more : goal.returns-clause-more
returns-clause-more c = products-more

pub returns-clause-due : goal.returns-clause-due
returns-clause-due c = due-to_next_product

pub returns-clause-minimal : goal.returns-clause-minimal
returns-clause-minimal c = due-to_next_minimal
