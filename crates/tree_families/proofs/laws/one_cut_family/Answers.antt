use Rattle.tree_families.proofs.CutFamilies.{cut_family-one}
use Rattle.tree_families.proofs.laws.one_cut_family.Goals as goal

pub returns : goal.returns
returns c = cut_family-one
