use Rattle.zdd_families.proofs.ProductLemmas.{product-none, product-with_none, product-unit, product-with_unit}
use Rattle.zdd_families.proofs.operation_laws.ends_of_products.Goals as goal

pub returns-clause-none : goal.returns-clause-none
returns-clause-none c = product-none

pub returns-clause-with_none : goal.returns-clause-with_none
returns-clause-with_none c = product-with_none

pub returns-clause-unit : goal.returns-clause-unit
returns-clause-unit c = product-unit

pub returns-clause-with_unit : goal.returns-clause-with_unit
returns-clause-with_unit c = product-with_unit
