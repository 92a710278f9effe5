use Rattle.tree_families.proofs.CutFamilies.{cut_family-minimal, IsFamilyFor-minimal}
use Rattle.tree_families.proofs.laws.minimal_sets_of_a_generating_family.Goals as goal

pub returns-clause-cut_family : goal.returns-clause-cut_family
returns-clause-cut_family c = cut_family-minimal

pub returns-clause-generates : goal.returns-clause-generates
returns-clause-generates c = IsFamilyFor-minimal
