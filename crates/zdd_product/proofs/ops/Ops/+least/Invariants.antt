use Rattle.std.proofs.Common.{◌+◌, ◌*◌}
use Rattle.zdd_shared_table.specs.Seats.{map_of}
use Rattle.zdd_product.proofs.MinimalSteps.{levels_above}
use Rattle.zdd_product.proofs.ops.Ops.+least.Given as goal

abbrev pub decreases-least : goal.decreases-least
decreases-least l = 2 * levels_above (map_of l.self.now) l.a + 1

abbrev pub decreases-least_halves : goal.decreases-least_halves
decreases-least_halves l = 2 * levels_above (map_of l.self.now) l.a
