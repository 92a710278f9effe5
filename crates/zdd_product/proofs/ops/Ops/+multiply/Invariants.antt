use Rattle.std.proofs.Common.{◌+◌, ◌*◌}
use Rattle.zdd_shared_table.specs.Seats.{map_of}
use Rattle.zdd_product.proofs.Halving.{levels_left, levels_with}
use Rattle.zdd_product.proofs.ops.Ops.+multiply.Given as goal

abbrev pub decreases-multiply : goal.decreases-multiply
decreases-multiply l = 3 * levels_left (map_of l.self.now) l.a l.b + 2

abbrev pub decreases-multiply_halves : goal.decreases-multiply_halves
decreases-multiply_halves l = 3 * levels_left (map_of l.self.now) l.a l.b + 1

abbrev pub decreases-multiply_with : goal.decreases-multiply_with
decreases-multiply_with l = 3 * levels_with (map_of l.self.now) l.first l.second + 3
