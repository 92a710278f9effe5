use Rattle.std.proofs.Common.{◌≡◌, sym, subst}
use Rattle.std.specs.Prelude.{codes, decimal}
use Rattle.board_report.specs.LogText.{reply_text}
use Rattle.board_audit.specs.Pieces.{past}
use Rattle.board_audit.proofs.PieceLemmas.{then_past}
use Rattle.board_audit.proofs.line.pass_reply.Goals as goal

pub returns-in-Denied : goal.returns-in-Denied
returns-in-Denied c =
    subst (λ reply. c.pass_number.new.part ≡ past (reply_text c.args.dockets.now reply) c.args.part.now)
    (sym c.in-Denied.is)
    (then_past c.args.part.now (codes "denied, cut ") (decimal c.in-Denied.number) c.pass-in-Denied.ensures
    c.pass_number.ensures)
