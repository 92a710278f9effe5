use Rattle.graph_cycles.proofs.Seal.{has-at}
use Rattle.graph_cycles.proofs.walk.rank_above.Goals as goal

pub rank_at-requires : goal.rank_at-requires
rank_at-requires c = c.requires.nodes _ (has-at c.args.nodes.now c.loop-node.node-index c.loop-node-test.true)
