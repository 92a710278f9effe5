use Rattle.std.proofs.Common.{◌==◌, sym, ◌∙◌, ap, min}
use Rattle.std.proofs.lemmas.Bool.{eqb-false, not-true}
use Rattle.many_families.proofs.Floors.{between}
use Rattle.many_families.proofs.votes.floor_with.Goals as goal

pub returns-then-last-floor : goal.returns-then-last-floor
returns-then-last-floor c = λ some.
    between c.is_sound.ensures c.requires
    (eqb-false c.args.r 1 (not-true (c.args.r == 1) (sym c.ne.ensures ∙ c.if-ne.true))) c.last.ensures
    c.if-last-floor.true (c.min.ensures ∙ ap (λ n. min n c.args.floor) c.level.ensures) some
