use Rattle.tree_families.proofs.Building.{gate-due, unit-due}
use Rattle.tree_families.proofs.laws.recipes_are_due.Goals as goal

pub returns-clause-unit : goal.returns-clause-unit
returns-clause-unit c = unit-due

pub returns-clause-gate : goal.returns-clause-gate
returns-clause-gate c = gate-due
