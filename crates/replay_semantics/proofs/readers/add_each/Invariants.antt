use Rattle.std.proofs.Common.{take}
use Rattle.replay_semantics.specs.Readers.{MoreReaders}
use Rattle.replay_semantics.proofs.readers.add_each.Given as goal

abbrev pub invariant-loop-node : goal.invariant-loop-node
invariant-loop-node l = MoreReaders l.initial.lists l.lists (take l.node-index l.nodes) l.reader
