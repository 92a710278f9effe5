use Rattle.std.proofs.Common.{◌+◌, ◌*◌}
use Rattle.zdd_shared_table.specs.Seats.{map_of}
use Rattle.zdd_product.proofs.Halving.{levels_left}
use Rattle.zdd_product.proofs.ops.Ops.+strip.Given as goal

abbrev pub decreases-strip : goal.decreases-strip
decreases-strip l = 2 * levels_left (map_of l.self.now) l.a l.b + 1

abbrev pub decreases-strip_halves : goal.decreases-strip_halves
decreases-strip_halves l = 2 * levels_left (map_of l.self.now) l.a l.b
