use Rattle.zdd_families.proofs.MinimalLemmas.{minimal-covers}
use Rattle.zdd_families.proofs.operation_laws.minimal_sets_cover.Goals as goal

pub returns : goal.returns
returns c = minimal-covers
