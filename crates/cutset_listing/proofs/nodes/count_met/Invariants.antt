use Rattle.std.proofs.Common.{◌≡◌, ◌≤◌, ◌+◌, ◌-◌, length}
use Rattle.zdd_shared_table.specs.Seats.{map_of}
use Rattle.cutset_listing.proofs.NodesLemmas.{HasMet}
use Rattle.cutset_listing.proofs.nodes.count_met.Given as goal

abbrev pub invariant-loop-place : goal.invariant-loop-place
invariant-loop-place l = record {
  met : HasMet (map_of l.fn.seat) l.fn.root l.met.keys l.place;
  within : l.place ≤ length l.met.keys;
  seat : l.seat ≡ l.fn.seat;
}

abbrev pub decreases-loop-place : goal.decreases-loop-place
decreases-loop-place l = (l.fn.store.words + 2) - l.place
