use Rattle.cutset_lists.proofs.SplitLemmas.{FilledTo}
use Rattle.cutset_lists.proofs.split.are_filled.Given as goal

abbrev pub invariant-loop-i : goal.invariant-loop-i
invariant-loop-i l = FilledTo l.sets l.i
