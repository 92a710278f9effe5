use Rattle.std.proofs.Common.{◌+◌, ◌*◌}
use Rattle.unit_sets.specs.CutOrder.{weight}
use Rattle.zdd_families.specs.Map.{family}
use Rattle.zdd_shared_table.specs.Seats.{map_of}
use Rattle.cutset_listing.proofs.measure.Sizes.+of.Given as goal

abbrev pub decreases-of : goal.decreases-of
decreases-of l = 2 * weight (family (map_of l.seat.now) l.r) + 1

abbrev pub decreases-of_parts : goal.decreases-of_parts
decreases-of_parts l = 2 * weight (family (map_of l.seat.now) l.r)
