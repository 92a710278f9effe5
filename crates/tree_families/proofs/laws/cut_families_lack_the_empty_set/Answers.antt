use Rattle.tree_families.proofs.CutFamilies.{no_empty_set}
use Rattle.tree_families.proofs.laws.cut_families_lack_the_empty_set.Goals as goal

pub returns : goal.returns
returns c = no_empty_set
