use Rattle.std.proofs.Common.{arith}
use Rattle.graph_cycles.proofs.Seal.{Closes-more}
use Rattle.graph_cycles.proofs.walk.seal.Goals as goal

pub loop-node-preserved : goal.loop-node-preserved
loop-node-preserved c =
    Closes-more c.args.nodes.now c.loop-node.node-index c.loop-node-test.true
    (omega (arith, c.requires.stages c.loop-node.node-index c.loop-node-test.true, c.loop-node.auto.stages))
    (omega (arith, c.requires.marks c.loop-node.node-index c.loop-node-test.true, c.loop-node.auto.marks))
    c.loop-node.invariant
