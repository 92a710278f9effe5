use Rattle.zdd_families.proofs.{Parts.origin-cases, UnionParts.union-parts, ProductParts.product-parts}
use Rattle.zdd_families.proofs.{WithoutParts.without-parts, MinimalParts.minimal-parts, VotesPartsLemmas.votes-parts}
use Rattle.zdd_families.proofs.part_laws.parts_of_results.Goals as goal

pub returns-clause-union : goal.returns-clause-union
returns-clause-union c =
    λ low size f g h part s t is reached. origin-cases (union-parts size s t is reached)

pub returns-clause-product : goal.returns-clause-product
returns-clause-product c =
    λ low size f g h part s t is reached. origin-cases (product-parts size s t is reached)

pub returns-clause-without : goal.returns-clause-without
returns-clause-without c = λ low size f g h part s t is reached. without-parts size s t is reached

pub returns-clause-minimal : goal.returns-clause-minimal
returns-clause-minimal c = λ low size f least part s is reached. minimal-parts size s is reached

pub returns-clause-votes : goal.returns-clause-votes
returns-clause-votes c =
    λ low size count families h part each is reached. votes-parts low size count families part each is reached
