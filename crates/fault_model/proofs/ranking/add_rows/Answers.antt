use Rattle.std.proofs.Common.{arith, ap, ◌∙◌, ◌++◌, map}
use Rattle.std.proofs.lemmas.List.{take_all}
use Rattle.fault_model.specs.Ranking.{places}
use Rattle.fault_model.proofs.RankingLemmas.{row_more}
use Rattle.fault_model.proofs.ranking.add_rows.Goals as goal

pub loop-list-preserved : goal.loop-list-preserved
loop-list-preserved c =
    row_more c.args.graph.now c.args.below.now c.loop-list.list-index c.loop-list-test.true c.list-item.is
    (c.deref.ensures.value ∙ c.in_ok-set_places.ensures ∙ ap places c.as_slice.ensures.items)
    c.loop-list.invariant c.in_ok-push.ensures.ok

pub returns : goal.returns
returns c =
    c.loop-list.invariant
    ∙ ap (λ lists. c.args.graph.now ++ map places lists)
    (take_all c.loop-list.list-index c.args.below.now (omega arith))
