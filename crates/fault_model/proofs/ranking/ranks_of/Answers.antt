use Rattle.std.proofs.Common.{arith, ◌<◌, ◌^◌, [], ◌∷◌, ◌++◌, ◌∙◌, ap, get_or, sym}
use Rattle.std.proofs.{lemmas.List.take_all, lemmas.List.take_more, lemmas.List.Elements.All-get_or}
use Rattle.fault_model.proofs.ranking.ranks_of.Goals as goal

pub overflow_cast-rank : goal.overflow_cast-rank
overflow_cast-rank c =
    let low = All-get_or (λ rank. rank < 2 ^ 31) c.args.ranks.now c.loop-rank.rank-index 0 c.loop-rank-test.true
    c.requires in
    omega arith

pub loop-rank-preserved : goal.loop-rank-preserved
loop-rank-preserved c =
    c.in_ok-push.ensures.items
    ∙ ap (λ xs. xs ++ get_or c.args.ranks.now c.loop-rank.rank-index 0 ∷ []) c.loop-rank.invariant
    ∙ sym (take_more c.args.ranks.now c.loop-rank.rank-index 0 c.loop-rank-test.true)

pub returns : goal.returns
returns c = c.loop-rank.invariant ∙ take_all c.loop-rank.rank-index c.args.ranks.now (omega arith)
