use Rattle.std.proofs.Common.{◌+◌, ◌*◌, ◌-◌}
use Rattle.minimal_operations.proofs.Steps.{levels_of_both}
use Rattle.minimal_operations.proofs.products.+product.Given as goal

abbrev pub decreases-product : goal.decreases-product
decreases-product l = 4 * levels_of_both l.memory.now l.a l.b + 3

abbrev pub decreases-multiply_levels : goal.decreases-multiply_levels
decreases-multiply_levels l = 4 * levels_of_both l.memory.now l.a l.b + 2

abbrev pub decreases-multiply_both : goal.decreases-multiply_both
decreases-multiply_both l = 4 * levels_of_both l.memory.now l.a l.b + 1

abbrev pub decreases-multiply_above : goal.decreases-multiply_above
decreases-multiply_above l = 4 * levels_of_both l.memory.now l.a l.b + 1

abbrev pub decreases-multiply_sides : goal.decreases-multiply_sides
decreases-multiply_sides l = 4 * (4096 - l.one.now.level)
