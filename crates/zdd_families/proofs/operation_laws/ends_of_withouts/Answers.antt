use Rattle.zdd_families.proofs.WithoutLemmas.{without-none, without-nothing, without-unit, unit-without}
use Rattle.zdd_families.proofs.WithoutLemmas.{unit-without_other}
use Rattle.zdd_families.proofs.operation_laws.ends_of_withouts.Goals as goal

pub returns-clause-none : goal.returns-clause-none
returns-clause-none c = without-none

pub returns-clause-with_none : goal.returns-clause-with_none
returns-clause-with_none c = without-nothing

pub returns-clause-with_unit : goal.returns-clause-with_unit
returns-clause-with_unit c = without-unit

pub returns-clause-unit_there : goal.returns-clause-unit_there
returns-clause-unit_there c = unit-without

pub returns-clause-unit_left : goal.returns-clause-unit_left
returns-clause-unit_left c = unit-without_other
