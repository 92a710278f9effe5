use Rattle.std.specs.List.{flat_map}
use Rattle.deck_reading.specs.Written.{statement_text}
use Rattle.tree_maker.specs.{Names.units_in, MadeDeck.unit_line}
use Rattle.tree_maker.proofs.Texts.{one_more}
use Rattle.tree_maker.proofs.tree.add_units.Goals as goal

pub loop-group-preserved : goal.loop-group-preserved
loop-group-preserved c =
    one_more (λ group. flat_map (λ name. statement_text (unit_line name)) (units_in group)) _ _
    c.loop-group.invariant (c.in_ok-add_units_in.ensures)
