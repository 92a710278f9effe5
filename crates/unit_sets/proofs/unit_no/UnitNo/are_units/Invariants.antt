use Rattle.std.proofs.Common.{take, All}
use Rattle.unit_sets.specs.Unit.{IsUnit}
use Rattle.unit_sets.proofs.unit_no.UnitNo.are_units.Given as goal

abbrev pub invariant-loop-unit : goal.invariant-loop-unit
invariant-loop-unit l = All IsUnit (take l.unit-index l.units)
