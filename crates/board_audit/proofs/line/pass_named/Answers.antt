use Rattle.std.specs.Prelude.{codes}
use Rattle.text_pieces.specs.Shown.{show}
use Rattle.board_audit.proofs.PieceLemmas.{then_past}
use Rattle.board_audit.proofs.line.pass_named.Goals as goal

pub returns : goal.returns
returns c = then_past c.args.part.now (codes " ") (show c.args.name.now) c.pass.ensures c.pass_shown.ensures
