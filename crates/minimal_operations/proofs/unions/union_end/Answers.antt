use Rattle.std.proofs.Common.{sym, ◌∙◌}
use Rattle.minimal_operations.proofs.Ends.{none_united, union_itself, union_none, union_unit, unit_united}
use Rattle.minimal_operations.proofs.unions.union_end.Goals as goal
use Rattle.minimal_operations.proofs.unions.union_end.Goals.{then-second-eq0-via-then-second-eq0, then-second-eq0-via-else-second-eq0+then-first-second}
use Rattle.minimal_operations.proofs.unions.union_end.Goals.{then-first-eq1-via-then-first-eq1, then-first-eq1-via-else-first-eq1+then-second-eq1}

pub returns-then-first-eq0 : goal.returns-then-first-eq0
returns-then-first-eq0 c held has = union_none has (sym c.number-first.ensures.value ∙ c.if-first-eq0.true)

pub returns-then-second-eq0 : goal.returns-then-second-eq0
returns-then-second-eq0 c held has = elim c.then-second-eq0.branch [
  | then-second-eq0-via-then-second-eq0 w ↦ none_united has (sym c.number-second.ensures.value ∙ w.if-second-eq0.true)
  | then-second-eq0-via-else-second-eq0+then-first-second w ↦
      union_itself has (sym c.number-first.ensures.value ∙ w.if-first-second.true ∙ c.number-second.ensures.value)
]

pub returns-then-first-eq1 : goal.returns-then-first-eq1
returns-then-first-eq1 c held has = elim c.then-first-eq1.branch [
  | then-first-eq1-via-then-first-eq1 w ↦ union_unit has (sym c.number-first.ensures.value ∙ w.if-first-eq1.true)
  | then-first-eq1-via-else-first-eq1+then-second-eq1 w ↦
      unit_united has (sym c.number-second.ensures.value ∙ w.if-second-eq1.true)
]
