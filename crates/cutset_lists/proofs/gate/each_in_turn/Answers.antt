use Rattle.std.proofs.Common.{arith}
use Rattle.cutset_lists.proofs.GateLemmas.{each-none, each-step}
use Rattle.cutset_lists.proofs.gate.each_in_turn.Goals as goal

pub loop-node-init : goal.loop-node-init
loop-node-init c =
    each-none c.args.nodes.now c.requires.none c.in_ok-push.ensures.ok

pub loop-node-preserved : goal.loop-node-preserved
loop-node-preserved c =
    each-step c.args.lists.now c.args.nodes.now c.loop-node.node-index c.node-item.result c.index.result
    c.index-lists-index.result (omega arith) c.node-item.is c.requires.have c.index.ensures c.index-lists-index.is
    c.in_ok-multiply.ensures c.loop-node.invariant
