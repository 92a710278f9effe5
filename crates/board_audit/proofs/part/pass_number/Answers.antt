use Rattle.std.proofs.Common.{ap, ◌∙◌}
use Rattle.board_audit.specs.Pieces.{past}
use Rattle.board_audit.proofs.part.pass_number.Goals as goal

pub returns : goal.returns
returns c =
    c.pass.ensures ∙ ap (λ piece. past piece c.args.part.now) (c.as_bytes.ensures.value ∙ c.format.ensures.text)
