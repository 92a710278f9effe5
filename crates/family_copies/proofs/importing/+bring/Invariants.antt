use Rattle.std.proofs.Common.{◌+◌, ◌*◌}
use Rattle.zdd_shared_table.specs.Seats.{map_of}
use Rattle.family_copies.proofs.Parting.{levels_above}
use Rattle.family_copies.proofs.importing.+bring.Given as goal

abbrev pub decreases-bring : goal.decreases-bring
decreases-bring l = 2 * levels_above (map_of l.ops.now) l.r + 1

abbrev pub decreases-bring_node : goal.decreases-bring_node
decreases-bring_node l = 2 * levels_above (map_of l.ops.now) l.r
