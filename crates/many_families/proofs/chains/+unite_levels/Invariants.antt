use Rattle.std.proofs.Common.{◌-◌}
use Rattle.many_families.proofs.ChainSteps.{least_level}
use Rattle.many_families.proofs.chains.+unite_levels.Given as goal

abbrev pub decreases-unite_levels : goal.decreases-unite_levels
decreases-unite_levels l = 4096 - least_level l.memory.now l.list.now
