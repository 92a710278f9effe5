use Rattle.std.proofs.Common.{◌≡◌, take}
use Rattle.crew_script.proofs.copies.copy_of_asks.Given as goal

abbrev pub invariant-loop-ask : goal.invariant-loop-ask
invariant-loop-ask l = l.copies ≡ take l.ask-index l.asks
