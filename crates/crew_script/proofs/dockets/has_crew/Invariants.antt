use Rattle.std.proofs.Common.{◌≡◌, take, false}
use Rattle.fault_words.specs.Names.{has_name}
use Rattle.crew_script.specs.Dockets.{names_of}
use Rattle.crew_script.proofs.dockets.has_crew.Given as goal

abbrev pub invariant-loop-crew : goal.invariant-loop-crew
invariant-loop-crew l = has_name (names_of (take l.crew-index l.crews)) l.name ≡ false
