use Rattle.std.proofs.Common.{◌≡◌, length}
use Rattle.fault_definitions.specs.Trigger.{below}
use Rattle.family_memory.specs.Memory.{Went}
use Rattle.memory_tests.proofs.Reading.{AreRead}
use Rattle.memory_tests.proofs.minimal_nodes_tests.families.+family_of.Given as goal

abbrev pub decreases-family_of : goal.decreases-family_of
decreases-family_of l = l.depth

abbrev pub invariant-loop-i : goal.invariant-loop-i
invariant-loop-i l = record {
  went : Went l.initial.memory l.memory;
  count : length l.list.items ≡ l.i;
  read : AreRead l.memory l.tree (below l.tree l.fn.node) l.list.items;
}
