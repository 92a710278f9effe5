use Rattle.std.proofs.Common.{sym, ◌∙◌}
use Rattle.minimal_operations.proofs.Halving.{half_whole}
use Rattle.minimal_operations.proofs.halves.half_at.Goals as goal

pub returns : goal.returns
returns c =
    half_whole c.is_sound.ensures c.number.ensures.unit c.requires.has c.requires.level
    (λ same. c.if-level-number.false (c.level.ensures ∙ same ∙ sym c.number.ensures.value))
