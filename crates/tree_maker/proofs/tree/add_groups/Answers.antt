use Rattle.deck_reading.specs.Written.{statement_text}
use Rattle.tree_maker.specs.MadeDeck.{group_gate}
use Rattle.tree_maker.proofs.Texts.{one_more}
use Rattle.tree_maker.proofs.tree.add_groups.Goals as goal

pub loop-group-preserved : goal.loop-group-preserved
loop-group-preserved c =
    one_more (λ group. statement_text (group_gate c.args.number group)) _ _ c.loop-group.invariant
    (c.in_ok-add_group.ensures)
