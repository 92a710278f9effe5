use Rattle.std.proofs.Common.{◌≡◌, get_or, ◌∙◌, arith, subst}
use Rattle.std.proofs.lemmas.List.{get_or_read, length-set}
use Rattle.minimal_operations.specs.Halves.{IsHalf}
use Rattle.many_families.proofs.ChainSteps.{lowered_more, waits_on}
use Rattle.many_families.proofs.chains.lower_all.Goals as goal

pub loop-place-preserved : goal.loop-place-preserved
loop-place-preserved c =
    let held = c.args.memory.now in
    let inv = c.loop-place.invariant in
    let list = c.loop-place.list in
    let place = c.loop-place.place in
    let at : c.index-list-place.result ≡ get_or list place 0 =
    get_or_read list place c.index-list-place.result (omega arith) c.index-list-place.is 0 in
    let half : IsHalf held c.args.level (get_or list place 0) c.half_at.result =
    subst (λ r. IsHalf held c.args.level r c.half_at.result) at c.half_at.ensures in
    record {
      size = length-set list place c.half_at.result.lo ∙ inv.size;
      lowered = lowered_more place c.args.list.now list (omega arith)
          (inv.waiting place (omega arith)) inv.lowered half;
      waiting =
          λ more past. waits_on c.args.list.now list place c.half_at.result.lo more past
          (inv.waiting more (omega (arith, past)));
    }
