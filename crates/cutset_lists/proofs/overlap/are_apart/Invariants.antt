use Rattle.cutset_lists.proofs.OverlapLemmas.{HasSeen}
use Rattle.cutset_lists.proofs.overlap.are_apart.Given as goal

abbrev pub invariant-loop-node : goal.invariant-loop-node
invariant-loop-node l = HasSeen l.lists l.nodes l.node-index l.seen
