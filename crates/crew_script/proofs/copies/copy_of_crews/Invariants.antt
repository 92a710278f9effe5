use Rattle.std.proofs.Common.{◌≡◌, take}
use Rattle.crew_script.proofs.copies.copy_of_crews.Given as goal

abbrev pub invariant-loop-crew : goal.invariant-loop-crew
invariant-loop-crew l = l.copies.items ≡ take l.crew-index l.crews
