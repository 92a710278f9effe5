use Rattle.std.proofs.Common.{arith}
use Rattle.margin_policy.specs.Decide.{is_granted}
use Rattle.board_report.specs.SummaryText.{is_denied, is_error}
use Rattle.board_report.proofs.SummaryLemmas.{few_replies}
use Rattle.board_report.proofs.summary.count_replies.Goals as goal

pub with-replies-requires-clause-granted : goal.with-replies-requires-clause-granted
with-replies-requires-clause-granted c =
    omega (
      arith,
      c.loop-entry.invariant.granted,
      c.loop-entry-test.true,
      few_replies is_granted c.args.history.now c.loop-entry.entry-index (omega (arith, c.loop-entry-test.true)),
    )

pub with-replies-requires-clause-denied : goal.with-replies-requires-clause-denied
with-replies-requires-clause-denied c =
    omega (
      arith,
      c.loop-entry.invariant.denied,
      c.loop-entry-test.true,
      few_replies is_denied c.args.history.now c.loop-entry.entry-index (omega (arith, c.loop-entry-test.true)),
    )

pub with-replies-requires-clause-errors : goal.with-replies-requires-clause-errors
with-replies-requires-clause-errors c =
    omega (
      arith,
      c.loop-entry.invariant.errors,
      c.loop-entry-test.true,
      few_replies is_error c.args.history.now c.loop-entry.entry-index (omega (arith, c.loop-entry-test.true)),
    )
