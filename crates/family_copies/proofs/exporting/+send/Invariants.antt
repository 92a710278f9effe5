use Rattle.std.proofs.Common.{◌+◌, ◌*◌}
use Rattle.family_memory.specs.Memory.{map_of}
use Rattle.family_copies.proofs.Parting.{levels_above}
use Rattle.family_copies.proofs.exporting.+send.Given as goal

abbrev pub decreases-send : goal.decreases-send
decreases-send l = 2 * levels_above (map_of l.memory.now) l.r + 1

abbrev pub decreases-send_node : goal.decreases-send_node
decreases-send_node l = 2 * levels_above (map_of l.memory.now) l.r
