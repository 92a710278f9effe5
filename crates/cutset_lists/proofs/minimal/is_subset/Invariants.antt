use Rattle.std.proofs.Common.{◌≡◌, take, true}
use Rattle.unit_sets.specs.UnitList.{is_within}
use Rattle.cutset_lists.proofs.minimal.is_subset.Given as goal

abbrev pub invariant-loop-unit : goal.invariant-loop-unit
invariant-loop-unit l = is_within l.set (take l.unit-index l.smaller) ≡ true
