use Rattle.std.proofs.Common.{◌≡◌, length}
use Rattle.std.proofs.lemmas.Result.{IfOk-weaker}
use Rattle.zdd_families.specs.Map.{family}
use Rattle.zdd_shared_table.specs.Seats.{map_of}
use Rattle.cutset_listing.specs.FamilySizes.{IsSizeOf}
use Rattle.cutset_listing.proofs.measure.size.Goals as goal

pub returns-clause-sets : goal.returns-clause-sets
returns-clause-sets c =
    let sets = family (map_of c.args.seat.now) c.args.root in
    IfOk-weaker c.of.result (IsSizeOf sets) (λ size. size.sets ≡ length sets) (λ _ is. is.count) c.of.ensures.size
