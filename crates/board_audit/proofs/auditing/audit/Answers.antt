use Rattle.std.proofs.Common.{subst}
use Rattle.outage_board.specs.Boards.{BoardView}
use Rattle.board_audit.specs.Verdicts.{IsVerdict}
use Rattle.board_audit.proofs.OneVerdict.{yes_exactly}
use Rattle.board_audit.proofs.auditing.audit.Goals as goal

pub returns-clause-yes : goal.returns-clause-yes
returns-clause-yes c =
    yes_exactly c.args.tree.now c.args.cuts.now c.args.dockets.now c.args.margin c.args.log.now c.crews.ensures.kept
    (subst (λ (b : BoardView). IsVerdict b.deck c.args.log.now c.judge-verdict.result) c.in_ok-board.ensures
    c.judge-verdict.ensures)
