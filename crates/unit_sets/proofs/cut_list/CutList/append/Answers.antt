use Rattle.std.proofs.Common.{◌≤◌, ◌++◌, refl, sym, subst, All}
use Rattle.unit_sets.specs.CutOrder.{IsInCutOrder, weight, weight_limit}
use Rattle.unit_sets.specs.Unit.{IsUnit}
use Rattle.unit_sets.proofs.CutOrderLemmas.{IsOrderedCuts-append}
use Rattle.unit_sets.proofs.cut_list.CutList.append.Goals as goal

pub invariant_of-self-2 : goal.invariant_of-self-2
invariant_of-self-2 c =
    let same = c.self.view_is in
    rw c.in_ok-append.ensures.ok
    (IsOrderedCuts-append c.self.inside.sets c.args.sets.now c.self.invariant c.requires.filled c.requires.rising
    (subst (All IsUnit) c.items.ensures c.are_units.ensures)
    (subst (λ cuts. IsInCutOrder (cuts ++ c.args.sets.now)) (sym same) c.requires.after_last)
    (subst (λ cuts. weight (cuts ++ c.args.sets.now) ≤ weight_limit) (sym same) (c.if-not-has_room.ensures.room refl)))
