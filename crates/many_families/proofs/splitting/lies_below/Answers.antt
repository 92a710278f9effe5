use Rattle.std.proofs.Common.{◌<◌, subst}
use Rattle.std.proofs.lemmas.Bool.{ltb-true}
use Rattle.many_families.proofs.Floors.{lower_lies_below}
use Rattle.many_families.proofs.splitting.lies_below.Goals as goal

pub returns : goal.returns
returns c is =
    lower_lies_below c.args.a c.args.b c.requires.sound c.requires.second
    c.last.ensures (subst (λ n. c.last.result < n) c.level.ensures (ltb-true c.last.result c.level.result is))
