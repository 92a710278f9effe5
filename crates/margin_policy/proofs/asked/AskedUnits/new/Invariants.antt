use Rattle.margin_policy.proofs.AskedLemmas.{IsFillingPlaces}
use Rattle.margin_policy.proofs.asked.AskedUnits.new.Given as goal

abbrev pub invariant-loop-i : goal.invariant-loop-i
invariant-loop-i l = IsFillingPlaces l.units l.places l.i
