use Rattle.zdd_families.proofs.StepsLemmas.{least_product-both, least_product-first, least_product-rest}
use Rattle.zdd_families.proofs.StepsLemmas.{least_sides}
use Rattle.zdd_families.proofs.Apart.{least_product-below}
use Rattle.zdd_families.proofs.minimal_laws.minimal_products_by_parts.Goals as goal

pub returns-clause-both : goal.returns-clause-both
returns-clause-both c = λ x f f0 f1 g g0 g1 lo all hi a b cut cut' left is of_f of_g is'.
    least_product-both x f f0 f1 g g0 g1 lo all hi cut cut' left is (least_sides f0 f1 g0 g1 of_f of_g is')

pub returns-clause-first : goal.returns-clause-first
returns-clause-first c = λ x f f0 f1 g lo all hi cut above is is' left.
    least_product-first g lo cut hi above is is' (least_product-rest g lo cut is is' left)

pub returns-clause-below : goal.returns-clause-below
returns-clause-below c = λ x f f0 f1 g lo hi cut is below. least_product-below g cut is below lo hi
