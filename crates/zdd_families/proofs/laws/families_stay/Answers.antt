use Rattle.zdd_families.proofs.Canonical.{family-grown}
use Rattle.zdd_families.proofs.laws.families_stay.Goals as goal

pub returns : goal.returns
returns c = family-grown
