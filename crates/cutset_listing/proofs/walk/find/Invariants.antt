use Rattle.std.proofs.Common.{◌≡◌, ◌≤◌}
use Rattle.unit_sets.specs.CutOrder.{weight_limit}
use Rattle.zdd_families.specs.Map.{family}
use Rattle.zdd_shared_table.specs.Seats.{map_of}
use Rattle.cutset_listing.specs.Visits.{Stands, visits_left}
use Rattle.cutset_listing.proofs.walk.find.Given as goal

abbrev pub invariant-loop-walk : goal.invariant-loop-walk
invariant-loop-walk l = record {
  on : Stands (map_of l.fn.seat) (family (map_of l.fn.seat) l.fn.root) l.walk l.walk.pending.items;
  light : l.walk.weight ≤ weight_limit;
  seat : l.seat ≡ l.fn.seat;
}

abbrev pub decreases-loop-walk : goal.decreases-loop-walk
decreases-loop-walk l = visits_left (map_of l.fn.seat) l.walk.pending.items
