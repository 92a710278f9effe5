use Rattle.tree_check.proofs.OneFault.{no_fault}
use Rattle.tree_check.proofs.laws.tree_or_fault.Goals as goal

pub returns : goal.returns
returns c = no_fault
