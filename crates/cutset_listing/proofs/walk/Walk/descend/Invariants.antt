use Rattle.std.proofs.Common.{◌≡◌, ◌≢◌}
use Rattle.zdd_families.specs.Map.{Knows}
use Rattle.zdd_shared_table.specs.Seats.{map_of}
use Rattle.cutset_listing.specs.Visits.{Descends, visits_ahead}
use Rattle.cutset_listing.proofs.walk.Walk.descend.Given as goal

abbrev pub invariant-loop-at : goal.invariant-loop-at
invariant-loop-at l = record {
  on : Descends (map_of l.fn.seat) l.fn.self l.fn.node l.self l.at;
  knows : Knows (map_of l.fn.seat) l.at;
  filled : l.at ≢ 0;
  seat : l.seat ≡ l.fn.seat;
}

abbrev pub decreases-loop-at : goal.decreases-loop-at
decreases-loop-at l = visits_ahead (map_of l.fn.seat) l.self l.at
