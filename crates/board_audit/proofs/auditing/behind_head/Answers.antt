use Rattle.std.proofs.Common.{ap, ◌∙◌}
use Rattle.std.specs.Prelude.{◌++◌, codes, decimal}
use Rattle.board_report.specs.LogText.{log_head}
use Rattle.board_audit.specs.Pieces.{past}
use Rattle.board_audit.proofs.PieceLemmas.{then_past}
use Rattle.board_audit.proofs.auditing.behind_head.Goals as goal

pub returns : goal.returns
returns c =
    let total = c.args.total in
    c.rest.ensures
    ∙ then_past c.new-part.result (codes "log: ") (decimal total ++ codes "\n") c.pass.ensures
    (then_past c.pass.new.self (decimal total) (codes "\n") c.pass_number.ensures c.pass-2.ensures)
    ∙ ap (past (log_head total)) c.new-part.ensures
