use Rattle.zdd_families.proofs.Splitting.{least_product-split}
use Rattle.zdd_families.proofs.minimal_laws.minimal_products_by_splitting.Goals as goal

pub returns : goal.returns
returns c = least_product-split
