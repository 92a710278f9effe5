use Rattle.std.proofs.Common.{◌∙◌, ◌<◌, ◌++◌, ◌∷◌, [], ap, sym, arith, length, take, List, ℕ}
use Rattle.std.proofs.lemmas.List.{take_more, take_all}
use Rattle.replay_semantics.specs.Spread.{step_without}
use Rattle.replay_semantics.proofs.SpreadLemmas.{without_more}
use Rattle.replay_semantics.proofs.failures.clear.Goals as goal

pub loop-node-preserved : goal.loop-node-preserved
loop-node-preserved c = λ n.
    let reach : c.number.result < length c.loop-node.steps = omega arith in
    without_more c.args.steps.now c.loop-node.steps (take c.loop-node.node-index c.args.nodes.now) c.number.result reach
    c.loop-node.invariant n
    ∙ ap (λ (nodes : List ℕ). step_without nodes c.args.steps.now n)
    (ap (λ (node : ℕ). take c.loop-node.node-index c.args.nodes.now ++ node ∷ []) (c.number.ensures ∙ c.node-item.is)
    ∙ sym (take_more c.args.nodes.now c.loop-node.node-index c.node-item.result c.loop-node-test.true))

pub returns : goal.returns
returns c =
    λ n. c.loop-node.invariant n ∙ ap (λ (nodes : List ℕ). step_without nodes c.args.steps.now n)
    (take_all c.loop-node.node-index c.args.nodes.now c.loop-node-test.false)
