use Rattle.std.proofs.{Common.arith, lemmas.Grind.common_steps}
use Rattle.tree_maker.specs.MadeDeck.{return_line}
use Rattle.tree_maker.proofs.Texts.{one_more}
use Rattle.tree_maker.proofs.crew.add_returns.Goals as goal

pub loop-k-preserved : goal.loop-k-preserved
loop-k-preserved c = one_more (return_line) _ _ c.loop-k.invariant (grind (arith, common_steps))
