use Rattle.zdd_families.proofs.MinimalLemmas.{minimal-none, minimal-unit, minimal-step}
use Rattle.zdd_families.proofs.operation_laws.minimal_sets_by_parts.Goals as goal

pub returns-clause-none : goal.returns-clause-none
returns-clause-none c = minimal-none

pub returns-clause-unit : goal.returns-clause-unit
returns-clause-unit c = minimal-unit

pub returns-clause-parts : goal.returns-clause-parts
returns-clause-parts c = minimal-step
