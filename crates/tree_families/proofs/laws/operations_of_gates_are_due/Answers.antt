use Rattle.tree_families.proofs.NodeSteps.{or_union-due, all_product-due, all_minimal-due, votes-due, gate_minimal-due}
use Rattle.tree_families.proofs.laws.operations_of_gates_are_due.Goals as goal

pub returns-clause-union : goal.returns-clause-union
returns-clause-union c = or_union-due

pub returns-clause-product : goal.returns-clause-product
returns-clause-product c = all_product-due

pub returns-clause-minimal : goal.returns-clause-minimal
returns-clause-minimal c = all_minimal-due

pub returns-clause-votes : goal.returns-clause-votes
returns-clause-votes c = votes-due

pub returns-clause-end : goal.returns-clause-end
returns-clause-end c = gate_minimal-due
