use Rattle.std.proofs.Common.{◌≡◌, true}
use Rattle.unit_sets.specs.UnitList.{among}
use Rattle.cutset_lists.proofs.waiting.Waiting.least_crowded.Given as goal

abbrev pub invariant-loop-unit : goal.invariant-loop-unit
invariant-loop-unit l = among l.set l.least ≡ true
