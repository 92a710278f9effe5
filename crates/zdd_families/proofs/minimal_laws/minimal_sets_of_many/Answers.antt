use Rattle.zdd_families.proofs.Many.{least_of_both, product_of_more, votes_of_more}
use Rattle.zdd_families.proofs.minimal_laws.minimal_sets_of_many.Goals as goal

pub returns-clause-unions : goal.returns-clause-unions
returns-clause-unions c = least_of_both

pub returns-clause-products : goal.returns-clause-products
returns-clause-products c = product_of_more

pub returns-clause-votes : goal.returns-clause-votes
returns-clause-votes c = votes_of_more
