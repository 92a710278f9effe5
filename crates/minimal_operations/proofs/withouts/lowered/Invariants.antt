use Rattle.minimal_operations.specs.Rests.{Serves}
use Rattle.minimal_operations.proofs.Steps.{levels_from}
use Rattle.minimal_operations.proofs.withouts.lowered.Given as goal

abbrev pub invariant-loop-a : goal.invariant-loop-a
invariant-loop-a l = Serves l.memory l.fn.a l.fn.b l.part

abbrev pub decreases-loop-a : goal.decreases-loop-a
decreases-loop-a l = levels_from l.memory l.part
