use Rattle.tree_families.proofs.FailingSets.{IsFamilyFor-cut_family}
use Rattle.tree_families.proofs.laws.cut_families_generate.Goals as goal

pub returns : goal.returns
returns c = IsFamilyFor-cut_family
