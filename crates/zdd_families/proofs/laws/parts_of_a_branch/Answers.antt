use Rattle.zdd_families.proofs.FamilyLemmas.{sets_without-branch, sets_with-branch, first_unit-branch}
use Rattle.zdd_families.proofs.laws.parts_of_a_branch.Goals as goal

pub returns-clause-lo : goal.returns-clause-lo
returns-clause-lo c = sets_without-branch

pub returns-clause-hi : goal.returns-clause-hi
returns-clause-hi c = sets_with-branch

pub returns-clause-level : goal.returns-clause-level
returns-clause-level c = first_unit-branch
