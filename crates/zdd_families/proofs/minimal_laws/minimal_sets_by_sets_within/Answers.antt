use Rattle.zdd_families.proofs.LeastLemmas.{minimal-from_within, IsLeastFor-minimal}
use Rattle.zdd_families.proofs.minimal_laws.minimal_sets_by_sets_within.Goals as goal

pub returns : goal.returns
returns c = λ f least is_family. (minimal-from_within least is_family, IsLeastFor-minimal is_family)
