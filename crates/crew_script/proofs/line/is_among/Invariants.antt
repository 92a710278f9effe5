use Rattle.std.proofs.Common.{◌≡◌, take, false}
use Rattle.fault_words.specs.Names.{has_name}
use Rattle.crew_script.proofs.line.is_among.Given as goal

abbrev pub invariant-loop-other : goal.invariant-loop-other
invariant-loop-other l = has_name (take l.other-index l.names) l.name ≡ false
