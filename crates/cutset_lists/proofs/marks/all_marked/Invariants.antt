use Rattle.std.proofs.Common.{◌≡◌, take, true}
use Rattle.unit_sets.specs.UnitList.{is_within}
use Rattle.cutset_lists.proofs.marks.all_marked.Given as goal

abbrev pub invariant-loop-unit : goal.invariant-loop-unit
invariant-loop-unit l = is_within l.marked (take l.unit-index l.units) ≡ true
