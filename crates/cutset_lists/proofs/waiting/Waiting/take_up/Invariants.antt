use Rattle.std.proofs.Common.{◌-◌, length}
use Rattle.cutset_lists.specs.Waiting.{AreReady}
use Rattle.cutset_lists.proofs.waiting.Waiting.take_up.Given as goal

abbrev pub invariant-loop-self : goal.invariant-loop-self
invariant-loop-self l = AreReady l.sets l.self

abbrev pub decreases-loop-self : goal.decreases-loop-self
decreases-loop-self l = length l.sets - l.self.count
