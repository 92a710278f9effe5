use Rattle.std.specs.Prelude.{IfErr, IfOk, [], ◌∷◌}
use Rattle.std.proofs.{Common.subst, lemmas.Result.IfOk-weaker}
use Rattle.tree_maker.specs.WellMade.{made_crew}
use Rattle.deck_reading.specs.{declared.deck.CrewPart.TheVariants.Needed, Faults.IsWellFormed}
use Rattle.outage_engine.specs.Answers.{IfRefused, IsFaultOfDeck}
use Rattle.outage_engine.proofs.Summing.{crews_are}
use Rattle.outage_engine.proofs.summary.read_made.Goals as goal

pub returns : goal.returns
returns c = record {
  deck =
      subst (λ bytes. IfOk c.deck_of.result (λ deck. IsWellFormed Needed bytes deck.tree deck.crews))
      c.in_ok-bytes.ensures.text c.deck_of.ensures.deck;
  crew =
      IfOk-weaker c.deck_of.result _ _
      (λ deck well.
      crews_are (made_crew c.args.number ∷ []) c.in_ok-bytes.ensures.well_formed.1.crews well) c.deck_of.ensures.deck;
  refused =
      subst (λ bytes. IfErr c.deck_of.result (IfRefused (IsFaultOfDeck Needed bytes))) c.in_ok-bytes.ensures.text
      c.deck_of.ensures.refused;
}
