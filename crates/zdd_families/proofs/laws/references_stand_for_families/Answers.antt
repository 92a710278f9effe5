use Rattle.zdd_families.proofs.Canonical.{IsFamily-family, family-above, family-filled}
use Rattle.zdd_families.proofs.laws.references_stand_for_families.Goals as goal

pub returns-clause-family : goal.returns-clause-family
returns-clause-family c = IsFamily-family

pub returns-clause-above : goal.returns-clause-above
returns-clause-above c = family-above

pub returns-clause-filled : goal.returns-clause-filled
returns-clause-filled c = family-filled
