use Rattle.tree_check.proofs.OneFault.{same_fault}
use Rattle.tree_check.proofs.laws.statements_have_one_first_fault.Goals as goal

pub returns : goal.returns
returns c = same_fault
