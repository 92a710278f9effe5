use Rattle.zdd_shared_table.specs.Seats.{map_of}
use Rattle.zdd_product.proofs.MinimalSteps.{levels_above}
use Rattle.worked_families.proofs.+spell.Given as goal

abbrev pub decreases-spell : goal.decreases-spell
decreases-spell l = levels_above (map_of l.ops.now) l.r
