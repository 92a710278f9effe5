use Rattle.std.specs.List.{flat_map}
use Rattle.tree_maker.specs.{Names.units_in, MadeDeck.take_line}
use Rattle.tree_maker.proofs.Texts.{one_more}
use Rattle.tree_maker.proofs.crew.add_takes.Goals as goal

pub loop-group-preserved : goal.loop-group-preserved
loop-group-preserved c = one_more (λ group. flat_map take_line (units_in group)) _ _ c.loop-group.invariant
    (c.in_ok-add_takes_in.ensures)
