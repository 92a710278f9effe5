use Rattle.zdd_families.proofs.LeastLemmas.{least-union, least-product, least-votes}
use Rattle.zdd_families.proofs.minimal_laws.minimal_sets_of_results.Goals as goal

pub returns-clause-union : goal.returns-clause-union
returns-clause-union c = least-union

pub returns-clause-product : goal.returns-clause-product
returns-clause-product c = least-product

pub returns-clause-votes : goal.returns-clause-votes
returns-clause-votes c = least-votes
