use Rattle.std.proofs.Common.{◌+◌, ◌*◌}
use Rattle.minimal_operations.proofs.Steps.{levels_from}
use Rattle.minimal_operations.proofs.products_below.+product_below.Given as goal

abbrev pub decreases-product_below : goal.decreases-product_below
decreases-product_below l = 2 * levels_from l.memory.now l.a + 1

abbrev pub decreases-multiply_parts : goal.decreases-multiply_parts
decreases-multiply_parts l = 2 * levels_from l.memory.now l.a
