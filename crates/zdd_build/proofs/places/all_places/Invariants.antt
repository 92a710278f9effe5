use Rattle.zdd_build.specs.Places.{HasPlacesTo}
use Rattle.zdd_build.proofs.places.all_places.Given as goal

abbrev pub invariant-loop-number : goal.invariant-loop-number
invariant-loop-number l = HasPlacesTo l.tree l.number l.places.items
