use Rattle.zdd_families.proofs.UnionLemmas.{union-none, union-with_none, union-itself}
use Rattle.zdd_families.proofs.operation_laws.ends_of_unions.Goals as goal

pub returns-clause-none : goal.returns-clause-none
returns-clause-none c = union-none

pub returns-clause-with_none : goal.returns-clause-with_none
returns-clause-with_none c = union-with_none

pub returns-clause-itself : goal.returns-clause-itself
returns-clause-itself c = union-itself
