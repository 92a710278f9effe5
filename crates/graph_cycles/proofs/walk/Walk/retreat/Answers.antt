use Rattle.std.proofs.Common.{refl, ◌≡◌, ◌-◌, take, length, arith}
use Rattle.std.proofs.lemmas.Grind.{common_steps}
use Rattle.graph_cycles.proofs.Progress.{Steps-left}
use Rattle.graph_cycles.proofs.walk.Walk.retreat.Goals as goal

pub returns : goal.returns
returns c =
    let shorter : c.pop.new.self.items ≡ take (length c.args.self.now.path.items - 1) c.args.self.now.path.items =
    grind (arith, common_steps) in
    Steps-left c.requires.stands c.requires.top c.requires.full c.requires.no_root refl shorter
