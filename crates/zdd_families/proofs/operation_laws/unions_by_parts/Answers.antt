use Rattle.zdd_families.proofs.UnionLemmas.{union-step}
use Rattle.zdd_families.proofs.operation_laws.unions_by_parts.Goals as goal

pub returns : goal.returns
returns c = union-step
