use Rattle.tree_families.proofs.CutFamilies.{cut_family-top, cut_list-from_family}
use Rattle.tree_families.proofs.laws.cut_family_of_the_top_event.Goals as goal

pub returns-clause-sets : goal.returns-clause-sets
returns-clause-sets c = cut_family-top

pub returns-clause-listed : goal.returns-clause-listed
returns-clause-listed c = cut_list-from_family
