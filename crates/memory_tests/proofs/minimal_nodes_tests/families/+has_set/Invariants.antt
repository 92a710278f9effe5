use Rattle.std.proofs.Common.{◌-◌}
use Rattle.zdd_families.specs.Map.{level_in}
use Rattle.family_memory.specs.Memory.{map_of}
use Rattle.memory_tests.proofs.minimal_nodes_tests.families.+has_set.Given as goal

abbrev pub decreases-has_set : goal.decreases-has_set
decreases-has_set l = 4096 - level_in (map_of l.memory.now) l.r
