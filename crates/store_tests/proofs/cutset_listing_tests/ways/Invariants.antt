use Rattle.std.proofs.Common.{◌≡◌, ◌≢◌, ◌*◌, ◌<◌, ◌≤◌}
use Rattle.zdd_families.specs.Map.{family}
use Rattle.zdd_shared_table.specs.Seats.{map_of}
use Rattle.cutset_listing.specs.Listing.{LacksEmptySet}
use Rattle.store_tests.specs.Made.{IsMade}
use Rattle.store_tests.proofs.cutset_listing_tests.ways.Given as goal

abbrev pub invariant-loop-left : goal.invariant-loop-left
invariant-loop-left l = record {
  own : l.seat.store ≡ l.fn.seat.store;
  made : IsMade (map_of l.seat) (2 * l.left) l.all;
  filled : l.all ≢ 0;
  lacks : l.left < l.fn.count → LacksEmptySet (family (map_of l.seat) l.all);
  few : l.left ≤ l.fn.count;
}

abbrev pub decreases-loop-left : goal.decreases-loop-left
decreases-loop-left l = l.left
