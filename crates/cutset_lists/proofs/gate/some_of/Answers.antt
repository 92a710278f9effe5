use Rattle.std.proofs.{Common.arith, lemmas.Result.on_ok_weaker}
use Rattle.cutset_lists.proofs.GateLemmas.{AddsSome-step, AddsSome-reduced}
use Rattle.cutset_lists.proofs.gate.some_of.Goals as goal

pub loop-node-preserved : goal.loop-node-preserved
loop-node-preserved c =
    AddsSome-step c.args.lists.now c.args.nodes.now c.loop-node.node-index c.node-item.result c.index.result
    c.index-lists-index.result (omega arith) c.node-item.is c.requires c.index.ensures c.index-lists-index.is
    c.in_ok-append.ensures.ok c.loop-node.invariant

pub returns : goal.returns
returns c =
    on_ok_weaker c.reduce.result (λ less. AddsSome-reduced c.loop-node.node-index (omega arith) less
    c.loop-node.invariant) c.reduce.ensures
