use Rattle.std.proofs.{Common.subst, lemmas.Result.IfErr-weaker, lemmas.Result.IfOk-weaker}
use Rattle.event_counts.specs.Count.{Rose}
use Rattle.deck_reading.specs.Faults.{IsWellFormed}
use Rattle.outage_engine.proofs.{Answering.of_whole, Reading.crews_are_there, Reading.refused_reading}
use Rattle.outage_engine.proofs.input.read_input.Goals as goal

pub returns-in-Ok : goal.returns-in-Ok
returns-in-Ok g c =
    let held = g.S.Source.held c.args.source.now in
    let left = g.S.Source.held c.read_all.new.source in
    record {
      deck =
          IfOk-weaker c.deck_of.result _ _
          (λ deck well.
          of_whole held left c.in-Ok.bytes (λ bytes. IsWellFormed c.args.part bytes deck.tree deck.crews)
          c.in-Ok.ensures.whole c.in-Ok.ensures.at_end c.in-Ok.ensures.within well)
          c.deck_of.ensures.deck;
      crews =
          IfOk-weaker c.deck_of.result _ _
          (λ deck well is.
          crews_are_there (subst (λ part. IsWellFormed part c.in-Ok.bytes deck.tree deck.crews) is well))
          c.deck_of.ensures.deck;
      refused =
          IfErr-weaker c.deck_of.result _ _
          (λ end refused.
          refused_reading c.args.part held left
          (Rose (g.S.Source.faults c.args.source.now) (g.S.Source.faults c.read_all.new.source)) c.in-Ok.bytes end
          c.in-Ok.ensures.whole c.in-Ok.ensures.at_end c.in-Ok.ensures.within refused)
          c.deck_of.ensures.refused;
    }
