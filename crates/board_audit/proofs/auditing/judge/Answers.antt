use Rattle.std.proofs.Common.{◌++◌, sym, ap, subst, ◌∙◌}
use Rattle.crew_script.specs.Dockets.{request_count}
use Rattle.board_report.specs.LogText.{log_head}
use Rattle.board_audit.specs.{Pieces.behind, Verdicts.IsVerdict}
use Rattle.board_audit.proofs.{PieceLemmas.behind_is, Judging.no_head}
use Rattle.board_audit.proofs.auditing.judge.Goals as goal

pub returns-in-Some : goal.returns-in-Some
returns-in-Some c =
    let count = c.total.ensures.count ∙ ap request_count c.dockets.ensures in
    subst (λ log. IsVerdict c.args.board.now.deck log c.judge_lines.result)
    (sym (behind_is (log_head c.total.result) c.args.log.now (sym c.in-Some.ensures)
    ∙ ap (λ n. log_head n ++ c.in-Some.lines.now) count)) c.judge_lines.ensures

pub returns-in-None : goal.returns-in-None
returns-in-None c =
    no_head c.args.board.now.deck c.args.log.now
    (c.in-None.ensures
    ∙ ap (λ n. behind (log_head n) c.args.log.now) (c.total.ensures.count ∙ ap request_count c.dockets.ensures))
