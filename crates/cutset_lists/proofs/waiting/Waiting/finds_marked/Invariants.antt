use Rattle.cutset_lists.proofs.WaitingLemmas.{NoneAt}
use Rattle.cutset_lists.proofs.waiting.Waiting.finds_marked.Given as goal

abbrev pub invariant-loop-unit : goal.invariant-loop-unit
invariant-loop-unit l = NoneAt l.sets l.self.at.items l.self.marked l.size l.set l.unit-index
