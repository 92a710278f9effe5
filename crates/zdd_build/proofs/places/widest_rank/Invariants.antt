use Rattle.std.proofs.Common.{◌-◌, length}
use Rattle.zdd_build.proofs.places.widest_rank.Given as goal

abbrev pub decreases-loop-from : goal.decreases-loop-from
decreases-loop-from l = length l.places - l.from
