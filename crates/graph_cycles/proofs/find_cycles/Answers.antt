use Rattle.std.proofs.Common.{arith}
use Rattle.graph_cycles.proofs.Walking.{all_closed, all_in_order}
use Rattle.graph_cycles.proofs.find_cycles.Goals as goal

pub returns-clause-exact : goal.returns-clause-exact
returns-clause-exact c = λ x l.
    c.loop-node.invariant.stands.sound.marked x (all_closed c.loop-node.invariant x (omega arith))

pub returns-clause-ranked : goal.returns-clause-ranked
returns-clause-ranked c = λ x l.
    c.loop-node.invariant.stands.ranks.ranked x (all_closed c.loop-node.invariant x (omega arith))

pub returns-clause-order : goal.returns-clause-order
returns-clause-order c =
    all_in_order c.loop-node.invariant (omega arith)
