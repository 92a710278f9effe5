use Rattle.zdd_families.proofs.Apart.{product-antichain}
use Rattle.zdd_families.proofs.minimal_laws.products_of_families_that_share_no_unit.Goals as goal

pub returns : goal.returns
returns c = product-antichain
