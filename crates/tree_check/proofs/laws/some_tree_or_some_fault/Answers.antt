use Rattle.tree_check.proofs.SomeTree.{tree_or_fault}
use Rattle.tree_check.proofs.laws.some_tree_or_some_fault.Goals as goal

pub returns : goal.returns
returns c = tree_or_fault
