use Rattle.unit_sets.specs.CutOrder.{cut_cmp_total}
use Rattle.unit_sets.proofs.CutOrderLemmas.{cut_cmp-same}
use Rattle.unit_sets.proofs.laws.cut_order_is_total.Goals as goal

pub returns-clause-total : goal.returns-clause-total
returns-clause-total c = cut_cmp_total

pub returns-clause-ties : goal.returns-clause-ties
returns-clause-ties c = cut_cmp-same
