use Rattle.std.proofs.Common.{◌≡◌, subst}
use Rattle.std.specs.Prelude.{codes, ◌++◌}
use Rattle.board_audit.specs.Pieces.{past}
use Rattle.board_audit.proofs.PieceLemmas.{then_past, past_quoted}
use Rattle.board_audit.proofs.line.pass_shown.Goals as goal

pub returns-else-is_bare : goal.returns-else-is_bare
returns-else-is_bare c =
    let name = c.args.name.now in
    past_quoted c.args.part.now name c.if-is_bare.ensures
    (then_past c.args.part.now (codes "\"" ++ name) (codes "\"")
    (then_past c.args.part.now (codes "\"") name c.pass-else-is_bare.ensures
    (subst (λ bytes. c.pass-else-is_bare-2.new.self ≡ past bytes c.pass-else-is_bare.new.self)
    c.as_slice-else-is_bare.ensures.bytes c.pass-else-is_bare-2.ensures))
    c.pass-else-is_bare-3.ensures)
