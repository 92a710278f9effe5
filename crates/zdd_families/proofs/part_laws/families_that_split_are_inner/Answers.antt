use Rattle.zdd_families.proofs.Parts.{inner-from_split}
use Rattle.zdd_families.proofs.part_laws.families_that_split_are_inner.Goals as goal

pub returns : goal.returns
returns c = inner-from_split
