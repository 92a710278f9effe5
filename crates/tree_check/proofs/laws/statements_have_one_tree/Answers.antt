use Rattle.tree_check.proofs.OneTree.{same_tree}
use Rattle.tree_check.proofs.laws.statements_have_one_tree.Goals as goal

pub returns : goal.returns
returns c = same_tree
