use Rattle.std.proofs.Common.{sym, subst}
use Rattle.unit_sets.specs.CutOrder.{IsOrderedCuts}
use Rattle.unit_sets.proofs.CutOrderLemmas.{IsOrderedCuts-nil}
use Rattle.unit_sets.proofs.cut_list.CutList.new.Goals as goal

pub invariant_of-result : goal.invariant_of-result
invariant_of-result c = subst IsOrderedCuts (sym c.new.ensures) IsOrderedCuts-nil
