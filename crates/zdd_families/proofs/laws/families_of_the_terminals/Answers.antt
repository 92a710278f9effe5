use Rattle.zdd_families.proofs.MapLemmas.{family-empty, family-unit}
use Rattle.zdd_families.proofs.laws.families_of_the_terminals.Goals as goal

pub returns-clause-empty : goal.returns-clause-empty
returns-clause-empty c = family-empty

pub returns-clause-unit : goal.returns-clause-unit
returns-clause-unit c = family-unit
