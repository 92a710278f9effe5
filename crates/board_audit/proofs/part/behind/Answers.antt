use Rattle.std.proofs.Common.{sym, ap, ◌∙◌}
use Rattle.std.proofs.lemmas.{Slice.Eq.strip_prefix_is, Bool.Decides.Decides-eqb}
use Rattle.board_audit.specs.Pieces.{lent, past}
use Rattle.board_audit.proofs.PieceLemmas.{lent_is}
use Rattle.board_audit.proofs.part.behind.Goals as goal

pub returns : goal.returns
returns c =
    let piece = c.args.piece.now in
    let text = c.in_ok-text.field-0.now in
    lent_is piece text c.strip_prefix.result
    (strip_prefix_is Decides-eqb text piece c.strip_prefix.result c.strip_prefix.ensures.cases)
    ∙ ap (λ t. past piece (lent t)) (sym c.in_ok-text.was)
