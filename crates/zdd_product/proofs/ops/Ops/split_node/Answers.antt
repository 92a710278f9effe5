use Rattle.std.proofs.Common.{ap}
use Rattle.zdd_shared_table.specs.Seats.{map_of}
use Rattle.zdd_product.proofs.Halving.{node_halves}
use Rattle.zdd_product.proofs.ops.Ops.split_node.Goals as goal

pub returns : goal.returns
returns c =
    let parts = c.parts-parts.ensures in
    let node = node_halves c.args.r (record { lo = c.parts-parts.result.lo; hi = c.parts-parts.result.hi })
    (ap map_of parts.seat) parts.sound.closed c.requires.knows c.requires.inner c.number.ensures.unit parts.level
    parts.branch parts.filled parts.lo.0 parts.hi.0 parts.lo_above parts.hi_above in
    record { unit = c.number.ensures.unit; half = node.0; split = node.1; seat = parts.seat; sound = parts.sound }
