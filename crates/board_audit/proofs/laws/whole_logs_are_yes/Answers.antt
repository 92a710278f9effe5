use Rattle.board_audit.proofs.WholeLogs.{agreed_when_log, log_when_agreed}
use Rattle.board_audit.proofs.laws.whole_logs_are_yes.Goals as goal

pub returns : goal.returns
returns c =
    λ tree cuts crews margin log kept.
    (log_when_agreed tree cuts crews margin kept log, agreed_when_log tree cuts crews margin kept log)
