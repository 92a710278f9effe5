use Rattle.tree_families.proofs.TreeParts.{has_cut_family}
use Rattle.tree_families.proofs.laws.each_node_has_a_cut_family.Goals as goal

pub returns : goal.returns
returns c = λ tree kept node is_node. let found = has_cut_family tree kept node is_node in (found.family, found.is)
