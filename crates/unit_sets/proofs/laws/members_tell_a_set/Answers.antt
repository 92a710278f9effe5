use Rattle.unit_sets.proofs.UnitListLemmas.{same_set}
use Rattle.unit_sets.proofs.laws.members_tell_a_set.Goals as goal

pub returns : goal.returns
returns c = same_set
