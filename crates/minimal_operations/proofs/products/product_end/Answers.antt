use Rattle.std.proofs.Common.{sym, ◌∙◌}
use Rattle.minimal_operations.proofs.Ends.{none_multiplied, product_itself, product_none, product_unit, unit_multiplied}
use Rattle.minimal_operations.proofs.products.product_end.Goals as goal
use Rattle.minimal_operations.proofs.products.product_end.Goals.{then-first-eq0-via-then-first-eq0, then-first-eq0-via-else-first-eq0+then-second-eq0}
use Rattle.minimal_operations.proofs.products.product_end.Goals.{then-second-eq1-via-then-second-eq1, then-second-eq1-via-else-second-eq1+then-first-second}

pub returns-then-first-eq0 : goal.returns-then-first-eq0
returns-then-first-eq0 c held has = elim c.then-first-eq0.branch [
  | then-first-eq0-via-then-first-eq0 w ↦ product_none has (sym c.number-first.ensures.value ∙ w.if-first-eq0.true)
  | then-first-eq0-via-else-first-eq0+then-second-eq0 w ↦
      none_multiplied has (sym c.number-second.ensures.value ∙ w.if-second-eq0.true)
]

pub returns-then-first-eq1 : goal.returns-then-first-eq1
returns-then-first-eq1 c held has = product_unit has (sym c.number-first.ensures.value ∙ c.if-first-eq1.true)

pub returns-then-second-eq1 : goal.returns-then-second-eq1
returns-then-second-eq1 c held has = elim c.then-second-eq1.branch [
  | then-second-eq1-via-then-second-eq1 w ↦
      unit_multiplied has (sym c.number-second.ensures.value ∙ w.if-second-eq1.true)
  | then-second-eq1-via-else-second-eq1+then-first-second w ↦
      product_itself has (sym c.number-first.ensures.value ∙ w.if-first-second.true ∙ c.number-second.ensures.value)
]
