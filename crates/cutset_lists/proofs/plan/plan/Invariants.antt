use Rattle.std.proofs.Common.{◌≤◌, length}
use Rattle.cutset_lists.specs.Plan.{IsPlanFrom}
use Rattle.cutset_lists.proofs.plan.plan.Given as goal

abbrev pub invariant-loop-place : goal.invariant-loop-place
invariant-loop-place l =
    record { within : l.place ≤ length l.order; plan : IsPlanFrom l.tree l.order l.until.items l.place }

abbrev pub decreases-loop-place : goal.decreases-loop-place
decreases-loop-place l = l.place
