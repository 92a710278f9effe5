use Rattle.std.proofs.Common.{◌+◌, ◌*◌}
use Rattle.minimal_operations.proofs.Steps.{levels_of_both}
use Rattle.minimal_operations.proofs.unions.+union.Given as goal

abbrev pub decreases-union : goal.decreases-union
decreases-union l = 3 * levels_of_both l.memory.now l.a l.b + 2

abbrev pub decreases-unite_levels : goal.decreases-unite_levels
decreases-unite_levels l = 3 * levels_of_both l.memory.now l.a l.b + 1

abbrev pub decreases-unite_both : goal.decreases-unite_both
decreases-unite_both l = 3 * levels_of_both l.memory.now l.a l.b

abbrev pub decreases-unite_above : goal.decreases-unite_above
decreases-unite_above l = 3 * levels_of_both l.memory.now l.a l.b
