use Rattle.zdd_families.proofs.Members.{branch-members}
use Rattle.zdd_families.proofs.laws.sets_of_a_branch.Goals as goal

pub returns : goal.returns
returns c = branch-members
