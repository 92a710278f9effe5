use Rattle.std.proofs.Common.{length}
use Rattle.many_families.proofs.chains.+unite_places.Given as goal

abbrev pub decreases-unite_places : goal.decreases-unite_places
decreases-unite_places l = length l.places.now
