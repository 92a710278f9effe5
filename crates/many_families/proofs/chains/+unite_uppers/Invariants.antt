use Rattle.std.proofs.Common.{length}
use Rattle.many_families.proofs.chains.+unite_uppers.Given as goal

abbrev pub decreases-unite_uppers : goal.decreases-unite_uppers
decreases-unite_uppers l = length l.list.now
