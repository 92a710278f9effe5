use Rattle.std.proofs.Common.{◌≡◌, ℕ, take}
use Rattle.std.specs.Prelude.{◌&&◌, not}
use Rattle.unit_sets.specs.UnitList.{among}
use Rattle.cutset_lists.proofs.marks.unmark.Given as goal

abbrev pub invariant-loop-unit : goal.invariant-loop-unit
invariant-loop-unit l =
    (other : ℕ) → among l.marked other ≡ (among l.units other && not (among (take l.unit-index l.units) other))
