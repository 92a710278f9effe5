use Rattle.std.proofs.Common.{◌+◌, ◌*◌}
use Rattle.zdd_shared_table.specs.Seats.{map_of}
use Rattle.zdd_product.proofs.Halving.{levels_left}
use Rattle.zdd_product.proofs.ops.Ops.+unite.Given as goal

abbrev pub decreases-unite : goal.decreases-unite
decreases-unite l = 2 * levels_left (map_of l.self.now) l.a l.b + 1

abbrev pub decreases-unite_halves : goal.decreases-unite_halves
decreases-unite_halves l = 2 * levels_left (map_of l.self.now) l.a l.b
