use Rattle.std.proofs.Common.{refl, arith}
use Rattle.cutset_listing.proofs.Walks.{starts}
use Rattle.cutset_listing.proofs.walk.find.Goals as goal

-- the walk begins at the root
pub loop-walk-init : goal.loop-walk-init
loop-walk-init c = record {
  on =
      starts _ c.args.root c.requires.knows c.in_ok-walk.ensures.path c.in_ok-walk.ensures.pending
      c.in_ok-walk.ensures.found c.in_ok-walk.ensures.weight;
  light = let e = c.in_ok-walk.ensures.weight in omega (arith, e);
  seat = refl;
}
