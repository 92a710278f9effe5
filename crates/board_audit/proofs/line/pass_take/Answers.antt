use Rattle.std.proofs.Common.{sym, ap, ◌∙◌, codes}
use Rattle.std.specs.List.{flat_map}
use Rattle.text_pieces.specs.Shown.{named}
use Rattle.board_audit.specs.Pieces.{past}
use Rattle.board_audit.proofs.PieceLemmas.{past-append, pass_next, passed_all}
use Rattle.board_audit.proofs.line.pass_take.Goals as goal

pub loop-name-preserved : goal.loop-name-preserved
loop-name-preserved c =
    pass_next named c.args.names.now c.loop-name.name-index c.loop-name.part c.loop-name-test.true c.name-item.is
    c.pass_named.ensures c.loop-name.invariant

pub returns : goal.returns
returns c =
    passed_all named c.args.names.now c.loop-name.name-index c.loop-name.part c.loop-name-test.false
    c.loop-name.invariant
    ∙ ap (past (flat_map named c.args.names.now)) c.pass.ensures
    ∙ sym (past-append (codes " take") (flat_map named c.args.names.now) c.args.part.now)
