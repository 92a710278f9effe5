use Rattle.zdd_families.proofs.StepsLemmas.{least_union-both, least_union-first, least_union-rest}
use Rattle.zdd_families.proofs.minimal_laws.minimal_unions_by_parts.Goals as goal

pub returns-clause-both : goal.returns-clause-both
returns-clause-both c = least_union-both

pub returns-clause-first : goal.returns-clause-first
returns-clause-first c = λ x f f0 f1 g lo hi cut above antichain is_family is left.
    least_union-first g lo cut hi above antichain is_family is (least_union-rest g lo cut antichain is left)
