use Rattle.deck_reading.specs.Written.{statement_text}
use Rattle.tree_maker.specs.MadeDeck.{fdep_gate}
use Rattle.tree_maker.proofs.Texts.{one_more}
use Rattle.tree_maker.proofs.tree.add_fdeps.Goals as goal

pub loop-q-preserved : goal.loop-q-preserved
loop-q-preserved c = one_more (λ q. statement_text (fdep_gate q)) _ _ c.loop-q.invariant (c.in_ok-add_fdep.ensures)
