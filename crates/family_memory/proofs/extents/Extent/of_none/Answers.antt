use Rattle.family_memory.proofs.Sizes.{extent-none}
use Rattle.family_memory.proofs.extents.Extent.of_none.Goals as goal

pub returns : goal.returns
returns c = extent-none 4096 4096 0 18446744073709551615 0
