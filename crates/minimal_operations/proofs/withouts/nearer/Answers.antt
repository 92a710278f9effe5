use Rattle.std.proofs.Common.{◌≤◌, arith}
use Rattle.zdd_families.specs.Map.{level_in}
use Rattle.family_memory.specs.Memory.{map_of}
use Rattle.minimal_operations.proofs.{Halving.part_serves, Nearing.rest_serves}
use Rattle.minimal_operations.proofs.withouts.nearer.Goals as goal

pub returns-then-level-clause-serves : goal.returns-then-level-clause-serves
returns-then-level-clause-serves c =
    let near : level_in (map_of c.args.memory.now) c.rest-rest.result ≤ level_in (map_of c.args.memory.now) c.args.a =
    let e = c.level.ensures in let f = c.level-2.ensures in let h = c.if-level.true in omega (arith, e, f, h) in
    rest_serves c.requires.has c.rest-rest.ensures near

pub returns-clause-serves : goal.returns-clause-serves
returns-clause-serves c = part_serves c.requires.has c.parts.ensures c.requires.lower
