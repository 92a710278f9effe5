use Rattle.std.proofs.Common.{◌≤◌, arith}
use Rattle.std.proofs.lemmas.List.Elements.{All-from_get_or}
use Rattle.zdd_families.specs.Map.{level_in}
use Rattle.family_memory.specs.Memory.{map_of}
use Rattle.many_families.proofs.chains.lowest.Goals as goal

pub returns : goal.returns
returns c =
    let known = map_of c.args.memory.now in
    let inv = c.loop-place.invariant in
    record {
      has = inv.has;
      least =
          All-from_get_or (λ r. level_in known c.loop-place.first ≤ level_in known r) c.args.list.now 0
          (λ at inside. inv.least at (omega (arith, inside)));
      member = inv.member;
    }
