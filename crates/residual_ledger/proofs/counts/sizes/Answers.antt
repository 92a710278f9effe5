use Rattle.std.proofs.Common.{◌++◌, ◌∷◌, ◌^◌, ◌<◌, [], ℕ, List, length, ap, sym, ◌∙◌, arith}
use Rattle.residual_ledger.proofs.CutLemmas.{cut_fits, residuals-more}
use Rattle.residual_ledger.proofs.counts.sizes.Goals as goal

pub overflow_cast-members : goal.overflow_cast-members
overflow_cast-members c =
    let short : length c.members.result.now < 2 ^ 31 =
    cut_fits c.args.cuts.now c.loop-place.place c.members.result.now c.members.ensures.ordered (omega arith)
    c.members.ensures.value in
    omega arith

pub loop-place-preserved : goal.loop-place-preserved
loop-place-preserved c =
    let more =
    residuals-more c.args.cuts.now c.loop-place.place c.members.result.now (omega arith) c.members.ensures.value in
    c.in_ok-push.ensures.items ∙ ap (λ (xs : List ℕ). xs ++ length c.members.result.now ∷ []) c.loop-place.invariant
    ∙ sym more
