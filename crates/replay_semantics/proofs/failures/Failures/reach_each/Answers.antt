use Rattle.std.proofs.Common.{◌∙◌, ◌+◌, ◌∷◌, List, ℕ, ap, sym, subst, drop}
use Rattle.std.proofs.lemmas.List.{drop_more, drop_all}
use Rattle.replay_semantics.specs.Spread.{Spread}
use Rattle.replay_semantics.proofs.SpreadLemmas.{more_again}
use Rattle.replay_semantics.proofs.failures.Failures.reach_each.Goals as goal

pub loop-node-preserved : goal.loop-node-preserved
loop-node-preserved c = record {
  more = more_again c.loop-node.invariant.more c.reach.ensures.more;
  spreads = λ turn next last spreading.
      c.reach.ensures.spreads turn (drop (c.loop-node.node-index + 1) c.args.nodes.now) next last
      (subst (λ (todo : List ℕ). Spread c.args.tree.now turn c.loop-node.self todo next)
      (drop_more c.args.nodes.now c.loop-node.node-index c.node-item.result c.loop-node-test.true
      ∙ ap (λ (n : ℕ). n ∷ drop (c.loop-node.node-index + 1) c.args.nodes.now) (sym c.node-item.is))
      (c.loop-node.invariant.spreads turn next last spreading));
}

pub returns-clause-spreads : goal.returns-clause-spreads
returns-clause-spreads c = λ turn next last spreading.
    subst (λ (todo : List ℕ). Spread c.args.tree.now turn c.loop-node.self todo next)
    (drop_all c.loop-node.node-index c.args.nodes.now c.loop-node-test.false)
    (c.loop-node.invariant.spreads turn next last spreading)
