use Rattle.std.proofs.Common.{◌≡◌, ℕ, take}
use Rattle.unit_sets.specs.UnitList.{among}
use Rattle.fault_model.specs.Order.{AreDistinct}
use Rattle.fault_model.proofs.order.are_distinct.Given as goal

abbrev pub invariant-loop-unit : goal.invariant-loop-unit
invariant-loop-unit l = record {
  seen : (unit : ℕ) → among l.seen unit ≡ among (take l.unit-index l.units) unit;
  distinct : AreDistinct (take l.unit-index l.units);
}
