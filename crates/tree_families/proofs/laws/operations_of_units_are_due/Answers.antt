use Rattle.tree_families.proofs.NodeSteps.{unit_union-due, unit_minimal-due}
use Rattle.tree_families.proofs.laws.operations_of_units_are_due.Goals as goal

pub returns-clause-union : goal.returns-clause-union
returns-clause-union c = unit_union-due

pub returns-clause-minimal : goal.returns-clause-minimal
returns-clause-minimal c = unit_minimal-due
