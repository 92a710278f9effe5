use Rattle.std.proofs.Common.{length}
use Rattle.zdd_build.proofs.teams.+close.Given as goal

abbrev pub decreases-close : goal.decreases-close
decreases-close l = length l.team.items
