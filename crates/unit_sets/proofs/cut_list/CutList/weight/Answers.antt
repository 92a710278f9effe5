use Rattle.std.proofs.Common.{◌≡◌, ◌+◌, arith, ap, ◌∙◌}
use Rattle.unit_sets.specs.CutOrder.{weight}
use Rattle.unit_sets.proofs.CutOrderLemmas.{weight-counts}
use Rattle.unit_sets.proofs.cut_list.CutList.weight.Goals as goal

-- what is kept weighs as much as it has sets and members
summed : (c : goal.After-item_count) → c.len.result + c.item_count.result ≡ weight c.self.inside.sets
summed c = omega (arith, c.len.ensures, c.item_count.ensures, weight-counts c.self.inside.sets)

pub overflow_add-result : goal.overflow_add-result
overflow_add-result c = omega (arith, summed c, c.self.invariant.within)

pub returns-clause-value : goal.returns-clause-value
returns-clause-value c = summed c ∙ ap weight c.self.view_is

pub returns-clause-within : goal.returns-clause-within
returns-clause-within c = omega (arith, summed c, c.self.invariant.within)
