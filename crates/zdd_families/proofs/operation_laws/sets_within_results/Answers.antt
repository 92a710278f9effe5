use Rattle.zdd_families.proofs.WithinLemmas.{some_within-union, some_within-product, some_within-minimal}
use Rattle.zdd_families.proofs.WithinLemmas.{some_within-votes}
use Rattle.zdd_families.proofs.operation_laws.sets_within_results.Goals as goal

pub returns-clause-union : goal.returns-clause-union
returns-clause-union c = some_within-union

pub returns-clause-product : goal.returns-clause-product
returns-clause-product c = some_within-product

pub returns-clause-minimal : goal.returns-clause-minimal
returns-clause-minimal c = some_within-minimal

pub returns-clause-votes : goal.returns-clause-votes
returns-clause-votes c = some_within-votes
