use Rattle.std.proofs.Common.{◌≡◌, take}
use Rattle.margin_policy.specs.Decide.{is_granted}
use Rattle.board_report.specs.SummaryText.{is_denied, is_error, reply_count}
use Rattle.board_report.proofs.summary.count_replies.Given as goal

abbrev pub invariant-loop-entry : goal.invariant-loop-entry
invariant-loop-entry l = record {
  granted : l.replies.granted ≡ reply_count is_granted (take l.entry-index l.history);
  denied : l.replies.denied ≡ reply_count is_denied (take l.entry-index l.history);
  errors : l.replies.errors ≡ reply_count is_error (take l.entry-index l.history);
}
