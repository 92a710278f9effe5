use Rattle.std.proofs.Common.{◌≡◌, ◌-◌, ◌<◌, ◌≤◌, length}
use Rattle.zdd_build.specs.Places.{IsRunTo, place_at}
use Rattle.zdd_build.proofs.places.end_of_rank.Given as goal

abbrev pub invariant-loop-end : goal.invariant-loop-end
invariant-loop-end l = record {
  rank : l.rank ≡ (place_at l.places l.from).rank;
  run : IsRunTo l.places l.from l.end;
  more : l.from < l.end;
  within : l.end ≤ length l.places;
}

abbrev pub decreases-loop-end : goal.decreases-loop-end
decreases-loop-end l = length l.places - l.end
