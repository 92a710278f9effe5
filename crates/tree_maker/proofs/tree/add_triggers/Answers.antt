use Rattle.std.proofs.{Common.arith, lemmas.Grind.common_steps}
use Rattle.deck_reading.specs.Written.{statement_text}
use Rattle.tree_maker.specs.{Names.trigger_name, MadeDeck.unit_line}
use Rattle.tree_maker.proofs.Texts.{one_more}
use Rattle.tree_maker.proofs.tree.add_triggers.Goals as goal

pub loop-trigger-preserved : goal.loop-trigger-preserved
loop-trigger-preserved c =
    one_more (λ trigger. statement_text (unit_line (trigger_name trigger))) _ _ c.loop-trigger.invariant
    (grind (arith, common_steps))
