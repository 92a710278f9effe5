use Rattle.tree_families.proofs.TreeParts.{cut_family-parts, recipe-made_parts}
use Rattle.tree_families.proofs.laws.parts_of_cut_families_are_due.Goals as goal

pub returns-clause-cut_family : goal.returns-clause-cut_family
returns-clause-cut_family c = cut_family-parts

pub returns-clause-made : goal.returns-clause-made
returns-clause-made c = recipe-made_parts
