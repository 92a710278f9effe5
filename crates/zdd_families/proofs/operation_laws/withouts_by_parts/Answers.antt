use Rattle.zdd_families.proofs.WithoutLemmas.{without-step, without-lower}
use Rattle.zdd_families.proofs.operation_laws.withouts_by_parts.Goals as goal

pub returns-clause-both : goal.returns-clause-both
returns-clause-both c = without-step

pub returns-clause-above : goal.returns-clause-above
returns-clause-above c = without-lower
