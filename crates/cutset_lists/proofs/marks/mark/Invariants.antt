use Rattle.std.proofs.Common.{◌≡◌, ℕ, take}
use Rattle.std.specs.Prelude.{◌||◌}
use Rattle.unit_sets.specs.UnitList.{among}
use Rattle.cutset_lists.proofs.marks.mark.Given as goal

abbrev pub invariant-loop-unit : goal.invariant-loop-unit
invariant-loop-unit l = (unit : ℕ)
    → among l.marked unit ≡ (among l.initial.marked unit || among (take l.unit-index l.units) unit)
