use Rattle.graph_cycles.proofs.Walking.{Walking-meets}
use Rattle.graph_cycles.proofs.walk.Walk.walk_from.Goals as goal

pub loop-at-init : goal.loop-at-init
loop-at-init c =
    Walking-meets c.requires.stands c.requires.rests c.requires.within c.requires.fresh c.in_ok-meet.ensures
