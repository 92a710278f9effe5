use Rattle.std.proofs.Common.{◌-◌}
use Rattle.zdd_families.specs.Map.{level_in}
use Rattle.family_memory.specs.Memory.{map_of}
use Rattle.many_families.proofs.votes.+join_below.Given as goal

abbrev pub decreases-join_below : goal.decreases-join_below
decreases-join_below l = 4096 - level_in (map_of l.memory.now) l.voter
