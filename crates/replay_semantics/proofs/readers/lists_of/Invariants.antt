use Rattle.replay_semantics.proofs.ReaderLemmas.{HaveReaders}
use Rattle.replay_semantics.proofs.readers.lists_of.Given as goal

abbrev pub invariant-loop-index : goal.invariant-loop-index
invariant-loop-index l = HaveReaders l.tree l.lists.items l.index
