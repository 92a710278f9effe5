use Rattle.family_memory.proofs.Sizes.{extent-unit}
use Rattle.family_memory.proofs.extents.Extent.of_unit.Goals as goal

pub returns : goal.returns
returns c = extent-unit 1
