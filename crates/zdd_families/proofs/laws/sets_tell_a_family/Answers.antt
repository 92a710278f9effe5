use Rattle.zdd_families.proofs.FamilyLemmas.{same_family}
use Rattle.zdd_families.proofs.laws.sets_tell_a_family.Goals as goal

pub returns : goal.returns
returns c = same_family
