use Rattle.std.proofs.Common.{◌+◌, ◌*◌}
use Rattle.minimal_operations.proofs.Steps.{levels_from}
use Rattle.minimal_operations.proofs.withouts.+without.Given as goal

abbrev pub decreases-without : goal.decreases-without
decreases-without l = 4 * levels_from l.memory.now l.a + 3

abbrev pub decreases-strip_lowered : goal.decreases-strip_lowered
decreases-strip_lowered l = 4 * levels_from l.memory.now l.a + 2

abbrev pub decreases-strip_nodes : goal.decreases-strip_nodes
decreases-strip_nodes l = 4 * levels_from l.memory.now l.a + 1

abbrev pub decreases-strip_halves : goal.decreases-strip_halves
decreases-strip_halves l = 4 * levels_from l.memory.now l.a
