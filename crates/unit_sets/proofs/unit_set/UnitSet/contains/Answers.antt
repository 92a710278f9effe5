use Rattle.std.proofs.Common.{◌∙◌}
use Rattle.unit_sets.proofs.unit_set.UnitSet.contains.Goals as goal
use Rattle.std.proofs.Common.{subst}
use Rattle.unit_sets.specs.UnitList.{IsUnitSet}
use Rattle.unit_sets.proofs.WordSets.{member_by_bit, IsUnitSet-units_of}

pub returns-clause-value : goal.returns-clause-value
returns-clause-value c =
    c.bit.ensures
    ∙ member_by_bit c.deref.ensures.value c.number.ensures.value c.number.ensures.unit c.self.view_is

pub returns-clause-set : goal.returns-clause-set
returns-clause-set c = subst IsUnitSet c.self.view_is (IsUnitSet-units_of c.self.invariant)
