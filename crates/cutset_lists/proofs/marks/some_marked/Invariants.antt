use Rattle.std.proofs.Common.{◌≡◌, take, false}
use Rattle.std.specs.List.{list_any}
use Rattle.unit_sets.specs.UnitList.{among}
use Rattle.cutset_lists.proofs.marks.some_marked.Given as goal

abbrev pub invariant-loop-unit : goal.invariant-loop-unit
invariant-loop-unit l = list_any (among l.marked) (take l.unit-index l.units) ≡ false
