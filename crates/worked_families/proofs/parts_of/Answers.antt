use Rattle.std.proofs.Common.{ap}
use Rattle.zdd_shared_table.specs.Seats.{map_of}
use Rattle.zdd_product.proofs.Halving.{node_halves}
use Rattle.worked_families.proofs.parts_of.Goals as goal

pub returns-clause-level : goal.returns-clause-level
returns-clause-level c =
    let parts = c.parts-parts.ensures in
    (node_halves c.args.r (record { lo = c.parts-parts.result.lo; hi = c.parts-parts.result.hi })
    (ap map_of parts.seat) parts.sound.closed c.requires.knows c.requires.inner c.number.ensures.unit parts.level
    parts.branch parts.filled parts.lo.0 parts.hi.0 parts.lo_above parts.hi_above).1.level

pub returns-clause-lo_above : goal.returns-clause-lo_above
returns-clause-lo_above c =
    let parts = c.parts-parts.ensures in
    (node_halves c.args.r (record { lo = c.parts-parts.result.lo; hi = c.parts-parts.result.hi })
    (ap map_of parts.seat) parts.sound.closed c.requires.knows c.requires.inner c.number.ensures.unit parts.level
    parts.branch parts.filled parts.lo.0 parts.hi.0 parts.lo_above parts.hi_above).0.lo_above

pub returns-clause-hi_above : goal.returns-clause-hi_above
returns-clause-hi_above c =
    let parts = c.parts-parts.ensures in
    (node_halves c.args.r (record { lo = c.parts-parts.result.lo; hi = c.parts-parts.result.hi })
    (ap map_of parts.seat) parts.sound.closed c.requires.knows c.requires.inner c.number.ensures.unit parts.level
    parts.branch parts.filled parts.lo.0 parts.hi.0 parts.lo_above parts.hi_above).0.hi_above
