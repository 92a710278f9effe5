use Rattle.zdd_families.proofs.{UnionLemmas.union-one, ProductLemmas.product-one, WithoutLemmas.without-one}
use Rattle.zdd_families.proofs.{MinimalLemmas.minimal-one, VotesLemmas.votes-one}
use Rattle.zdd_families.proofs.operation_laws.one_result.Goals as goal

pub returns-clause-union : goal.returns-clause-union
returns-clause-union c = union-one

pub returns-clause-product : goal.returns-clause-product
returns-clause-product c = product-one

pub returns-clause-without : goal.returns-clause-without
returns-clause-without c = without-one

pub returns-clause-minimal : goal.returns-clause-minimal
returns-clause-minimal c = minimal-one

pub returns-clause-votes : goal.returns-clause-votes
returns-clause-votes c = votes-one
