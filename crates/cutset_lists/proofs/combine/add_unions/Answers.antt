use Rattle.std.proofs.Common.{◌∷◌, [], ◌++◌, ◌∙◌, arith, ap}
use Rattle.cutset_lists.proofs.SetLemmas.{AddsUnions-step}
use Rattle.cutset_lists.proofs.combine.add_unions.Goals as goal

pub loop-i-preserved : goal.loop-i-preserved
loop-i-preserved c =
    AddsUnions-step c.args.list.now c.args.sets.now c.loop-i.sets c.loop-i.i (omega arith) c.row.ensures
    (c.in_ok-push.ensures.ok ∙ ap (λ u. c.loop-i.sets ++ u ∷ []) c.as_slice.ensures.value) c.in_ok-merge.ensures
    c.loop-i.invariant
