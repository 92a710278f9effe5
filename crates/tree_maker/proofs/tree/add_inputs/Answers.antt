use Rattle.std.proofs.{Common.arith, lemmas.Grind.common_steps}
use Rattle.deck_reading.specs.Written.{Bare, input_text}
use Rattle.tree_maker.specs.Names.{gate_name}
use Rattle.tree_maker.proofs.Texts.{one_more}
use Rattle.tree_maker.proofs.tree.add_inputs.Goals as goal

pub loop-group-preserved : goal.loop-group-preserved
loop-group-preserved c = one_more (λ group. input_text (Bare (gate_name group))) _ _ c.loop-group.invariant
    (grind (arith, common_steps))
