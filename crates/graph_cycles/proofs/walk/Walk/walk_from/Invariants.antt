use Rattle.graph_cycles.specs.State.{steps_left}
use Rattle.graph_cycles.proofs.Walking.{Walking}
use Rattle.graph_cycles.proofs.walk.Walk.walk_from.Given as goal

abbrev pub invariant-loop-at : goal.invariant-loop-at
invariant-loop-at l = Walking l.graph l.fn.self l.self l.root

abbrev pub decreases-loop-at : goal.decreases-loop-at
decreases-loop-at l = steps_left l.graph l.self
