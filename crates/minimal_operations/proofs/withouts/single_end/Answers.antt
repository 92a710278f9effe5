use Rattle.std.proofs.Common.{sym, ◌∙◌}
use Rattle.minimal_operations.proofs.SingleRests.{single_gone, single_stays}
use Rattle.minimal_operations.proofs.withouts.single_end.Goals as goal

pub returns-then-number-eq1-2 : goal.returns-then-number-eq1-2
returns-then-number-eq1-2 c =
    single_gone c.requires c.parts-one.ensures c.half_at-other.ensures
    (sym c.number.ensures.value ∙ c.if-number-eq0.true)
    (sym c.number-then-number-eq0.ensures.value ∙ c.if-number-eq1.true)
    (sym c.number-then-number-eq1.ensures.value ∙ c.if-number-eq1-2.true)

pub returns-then-number-eq1 : goal.returns-then-number-eq1
returns-then-number-eq1 c =
    single_stays c.requires c.parts-one.ensures c.half_at-other.ensures
    (sym c.number.ensures.value ∙ c.if-number-eq0.true)
    (sym c.number-then-number-eq0.ensures.value ∙ c.if-number-eq1.true)
    (λ is. c.if-number-eq1-2.false (c.number-then-number-eq1.ensures.value ∙ is))
