use Rattle.zdd_families.proofs.{UnionParts.union-exists, ProductParts.product-exists, WithoutParts.without-exists}
use Rattle.zdd_families.proofs.{MinimalParts.minimal-exists, VotesPartsLemmas.votes-exist}
use Rattle.zdd_families.proofs.part_laws.results_exist.Goals as goal

pub returns-clause-union : goal.returns-clause-union
returns-clause-union c = λ low size f g s t. let found = union-exists size s t in (found.union, found.is)

pub returns-clause-product : goal.returns-clause-product
returns-clause-product c = λ low size f g s t. let found = product-exists size s t in (found.product, found.is)

pub returns-clause-without : goal.returns-clause-without
returns-clause-without c = λ low size f g s t. let found = without-exists size s t in (found.rest, found.is)

pub returns-clause-minimal : goal.returns-clause-minimal
returns-clause-minimal c = λ low size f s. let found = minimal-exists size s in (found.least, found.is)

pub returns-clause-votes : goal.returns-clause-votes
returns-clause-votes c =
    λ low size count families each. let found = votes-exist low size families each count in (found.votes, found.is)
