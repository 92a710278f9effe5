use Rattle.zdd_families.proofs.FamilyLemmas.{IsFamily-branch}
use Rattle.zdd_families.proofs.laws.a_branch_is_a_family.Goals as goal

pub returns : goal.returns
returns c = IsFamily-branch
