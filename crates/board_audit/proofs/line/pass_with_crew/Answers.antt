use Rattle.std.proofs.Common.{◌≡◌, subst}
use Rattle.crew_script.specs.Dockets.{crew_at}
use Rattle.text_pieces.specs.Shown.{show}
use Rattle.board_audit.specs.Pieces.{past}
use Rattle.board_audit.proofs.PieceLemmas.{then_past}
use Rattle.board_audit.proofs.line.pass_with_crew.Goals as goal

pub returns : goal.returns
returns c =
    then_past c.args.part.now c.args.text.now (show (crew_at c.args.dockets.now c.args.crew.0).name) c.pass.ensures
    (subst (λ name. c.pass_shown.new.part ≡ past (show name) c.pass.new.self) c.crew_name.ensures c.pass_shown.ensures)
