use Rattle.family_copies.proofs.Parting.{parts_are}
use Rattle.family_copies.proofs.importing.parts_of.Goals as goal

pub returns-clause-parts : goal.returns-clause-parts
returns-clause-parts c =
    let node = c.parts-parts.ensures in
    parts_are c.args.r c.parts-parts.result c.requires.inner c.number.ensures.unit node.filled node.seat node.sound
    c.requires.knows node.lo.0 node.hi.0 node.level node.branch node.lo_above node.hi_above
