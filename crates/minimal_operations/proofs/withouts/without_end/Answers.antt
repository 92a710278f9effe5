use Rattle.std.proofs.Common.{sym, ◌∙◌, arith}
use Rattle.minimal_operations.proofs.Ends.{unit_stays, without_itself, without_none, without_nothing, without_unit}
use Rattle.minimal_operations.proofs.withouts.without_end.Goals as goal
use Rattle.minimal_operations.proofs.withouts.without_end.Goals.{then-first-eq0-via-then-first-eq0, then-first-eq0-via-else-first-eq0+then-second-eq1, then-first-eq0-via-else-first-eq0+else-second-eq1+then-first-second}
use Rattle.minimal_operations.proofs.withouts.without_end.Goals.{then-second-eq0-via-then-second-eq0, then-second-eq0-via-else-second-eq0+then-first-eq1}

pub returns-then-first-eq0 : goal.returns-then-first-eq0
returns-then-first-eq0 c held has = elim c.then-first-eq0.branch [
  | then-first-eq0-via-then-first-eq0 w ↦ without_none has (sym c.number-first.ensures.value ∙ w.if-first-eq0.true)
  | then-first-eq0-via-else-first-eq0+then-second-eq1 w ↦
      without_unit has (sym c.number-second.ensures.value ∙ w.if-second-eq1.true)
  | then-first-eq0-via-else-first-eq0+else-second-eq1+then-first-second w ↦
      without_itself has (sym c.number-first.ensures.value ∙ w.if-first-second.true ∙ c.number-second.ensures.value)
]

pub returns-then-second-eq0 : goal.returns-then-second-eq0
returns-then-second-eq0 c held has = elim c.then-second-eq0.branch [
  | then-second-eq0-via-then-second-eq0 w ↦
      without_nothing has (sym c.number-second.ensures.value ∙ w.if-second-eq0.true)
  | then-second-eq0-via-else-second-eq0+then-first-eq1 w ↦
      let e = c.number-second.ensures.value in
      let other = c.if-second-eq1.false in
      let some = w.if-second-eq0.false in
      unit_stays has (sym c.number-first.ensures.value ∙ w.if-first-eq1.true) (omega (arith, e, other, some))
]
