use Rattle.std.proofs.Common.{arith, ◌∙◌}
use Rattle.galileo_lexer.proofs.Steps.{line_begins, block_begins, slash_alone}
use Rattle.galileo_lexer.proofs.constructs.comment_end.Goals as goal
use Rattle.galileo_lexer.proofs.constructs.comment_end.Goals.{then-second-text+else-text-second-eq-SLASH+else-text-second-eq-STAR}
use Rattle.galileo_lexer.proofs.constructs.comment_end.Goals.{else-second-text}

pub returns-then-text-second-eq-SLASH : goal.returns-then-text-second-eq-SLASH
returns-then-text-second-eq-SLASH c =
    let same = rw c.along.ensures at c.line_end.ensures.same in
    let onward = rw c.along.ensures at c.line_end.ensures.onward in (
      line_begins c.args.start c.args.text.now c.if-second-text.true c.requires.first c.if-text-second-eq-SLASH.true
          ∙ same,
      c.line_end.ensures.spot,
      omega arith,
    )

pub returns-then-text-second-eq-STAR : goal.returns-then-text-second-eq-STAR
returns-then-text-second-eq-STAR c =
    rw (block_begins c.args.start c.args.text.now c.if-second-text.true c.requires.first c.if-text-second-eq-STAR.true)
    (rw c.along-then-text-second-eq-STAR.ensures at c.block_end.ensures)

pub returns : goal.returns
returns c =
    rw c.fault.ensures
    (elim c.if-second-text.branch [
      | then-second-text+else-text-second-eq-SLASH+else-text-second-eq-STAR w ↦
          slash_alone c.args.start c.args.text.now c.requires.inside c.requires.first
          (λ _. w.if-text-second-eq-SLASH.false) (λ _. w.if-text-second-eq-STAR.false)
      | else-second-text w ↦
          slash_alone c.args.start c.args.text.now c.requires.inside c.requires.first (λ inside. absurd (omega arith))
          (λ inside. absurd (omega arith))
    ])
