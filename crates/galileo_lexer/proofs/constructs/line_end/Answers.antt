use Rattle.std.proofs.Common.{◌∙◌}
use Rattle.galileo_lexer.specs.Spot.{along}
use Rattle.galileo_lexer.proofs.Steps.{line_over, line_out}
use Rattle.galileo_lexer.proofs.constructs.line_end.Goals as goal
use Rattle.galileo_lexer.proofs.constructs.line_end.Goals.{then-loop-end-test+else-text-end-ne-LINE_FEED}
use Rattle.galileo_lexer.proofs.constructs.line_end.Goals.{else-loop-end-test}

pub returns-clause-same : goal.returns-clause-same
returns-clause-same c =
    let spot = along c.args.start c.loop-end.end in
    rw c.along.ensures (c.loop-end.invariant.same ∙
    elim c.loop-end-test.branch [
      | then-loop-end-test+else-text-end-ne-LINE_FEED w ↦
          line_over spot c.args.text.now w.loop-end-test.true w.if-text-end-ne-LINE_FEED.false
      | else-loop-end-test w ↦ line_out spot c.args.text.now w.loop-end-test.false
    ])
