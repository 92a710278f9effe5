use Rattle.std.proofs.Common.{◌∙◌}
use Rattle.cutset_listing.proofs.Walks.{Descends-then}
use Rattle.cutset_listing.proofs.walk.Walk.descend.Goals as goal

pub loop-at-preserved : goal.loop-at-preserved
loop-at-preserved c =
    let seat = c.loop-at.invariant.seat in
    record {
      on =
          Descends-then c.loop-at.invariant.on (rw seat at c.in_ok-at.ensures.on);
      knows = rw seat at c.in_ok-at.ensures.knows;
      filled = c.in_ok-at.ensures.filled;
      seat = c.open.ensures.seat ∙ seat;
    }
