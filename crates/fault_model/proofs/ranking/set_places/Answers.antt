use Rattle.std.proofs.Common.{arith, ◌-◌, ◌∙◌, ◌≤◌, ap, subst, sym}
use Rattle.std.proofs.{lemmas.List.take_all, lemmas.List.Elements.All-get_or}
use Rattle.fault_model.specs.Ranking.{places}
use Rattle.fault_model.proofs.RankingLemmas.{map_step}
use Rattle.fault_model.proofs.ranking.set_places.Goals as goal

pub index-requires : goal.index-requires
index-requires c =
    subst (λ n. 1 ≤ n) (sym c.node-item.is)
    (All-get_or (λ n. 1 ≤ n) c.args.nodes.now c.loop-node.node-index c.node-item.result c.loop-node-test.true
    c.requires)

pub loop-node-init : goal.loop-node-init
loop-node-init c = c.clear.ensures.items

pub loop-node-preserved : goal.loop-node-preserved
loop-node-preserved c =
    map_step (λ node. node - 1) c.args.nodes.now c.loop-node.node-index c.loop-node-test.true c.node-item.is
    c.index.ensures
    c.loop-node.invariant c.in_ok-push.ensures.items

pub returns : goal.returns
returns c = c.loop-node.invariant ∙ ap places (take_all c.loop-node.node-index c.args.nodes.now (omega arith))
