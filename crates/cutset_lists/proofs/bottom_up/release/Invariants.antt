use Rattle.cutset_lists.specs.Plan.{Releases}
use Rattle.cutset_lists.proofs.bottom_up.release.Given as goal

abbrev pub invariant-loop-node : goal.invariant-loop-node
invariant-loop-node l = Releases l.until l.end l.initial.lists.items l.lists.items
