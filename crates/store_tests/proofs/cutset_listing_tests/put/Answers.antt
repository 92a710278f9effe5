use Rattle.store_tests.proofs.Mades.{keeps_grown, made_node, lacks_node, filled_node}
use Rattle.store_tests.proofs.cutset_listing_tests.put.Goals as goal

pub returns-clause-keeps : goal.returns-clause-keeps
returns-clause-keeps c =
    keeps_grown _ _ c.is_sound.ensures.sound.closed c.in_ok-r.ensures.sound.closed c.in_ok-r.ensures.keeps

pub returns-clause-made : goal.returns-clause-made
returns-clause-made c =
    λ below less. made_node c.args.level _ _ (rw c.in_ok-unit.ensures at c.in_ok-r.ensures.family)
    c.requires.lo.above c.requires.hi.above less

pub returns-clause-filled : goal.returns-clause-filled
returns-clause-filled c =
    filled_node _ _ _ _ c.in_ok-r.ensures.family c.is_sound.ensures.sound.closed c.requires.hi.knows c.requires.filled

pub returns-clause-lacks : goal.returns-clause-lacks
returns-clause-lacks c = lacks_node _ _ c.in_ok-r.r _ _ c.in_ok-r.ensures.family
