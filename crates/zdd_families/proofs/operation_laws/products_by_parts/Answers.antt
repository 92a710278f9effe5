use Rattle.zdd_families.proofs.ProductLemmas.{product-step}
use Rattle.zdd_families.proofs.operation_laws.products_by_parts.Goals as goal

pub returns : goal.returns
returns c = product-step
