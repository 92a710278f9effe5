use Rattle.std.specs.Prelude.{None}
use Rattle.std.proofs.{Common.inl, Common.refl, lemmas.Result.IfErr-weaker, lemmas.Result.IfOk-weaker}
use Rattle.event_counts.specs.Count.{Rose}
use Rattle.deck_reading.specs.declared.deck.CrewPart.TheVariants.{Needed}
use Rattle.outage_engine.specs.{Store.method_by, Texts.for_board}
use Rattle.outage_engine.proofs.{Answering.limit_for, Answering.refused_for, SeatLemmas.bears_out, SeatLemmas.left_by}
use Rattle.outage_engine.proofs.{Serving.opened_of_input}
use Rattle.outage_engine.proofs.opening.open_input.Goals as goal

pub returns-in-Ok : goal.returns-in-Ok
returns-in-Ok g c =
    let held = g.S.Source.held c.args.source.now in
    let left = g.S.Source.held c.read_input.new.source in
    let deck = c.in-Ok.deck in
    let read = c.in-Ok.ensures.deck in
    record {
      opened =
          IfOk-weaker c.open_deck-opened.result _ _
          (λ opened is.
          opened_of_input held left c.args.board.margin deck.crews opened read is) c.open_deck-opened.ensures.opened;
      ready = c.open_deck-opened.ensures.ready;
      bears =
          IfOk-weaker c.open_deck-opened.result _ _
          (λ opened found.
          bears_out None held left c.args.seat.now c.open_deck-opened.new.seat Needed deck.tree deck.crews read
          (method_by opened.listing.root) found)
          c.open_deck-opened.ensures.found;
      refused =
          IfErr-weaker c.open_deck-opened.result _ _
          (λ end limit.
          limit_for None held left
          (Rose (g.S.Source.faults c.args.source.now) (g.S.Source.faults c.read_input.new.source))
          deck.tree deck.crews Needed c.args.board.asked.most end read limit)
          c.open_deck-opened.ensures.limit;
      left =
          left_by None held left c.args.seat.now c.open_deck-opened.new.seat Needed deck.tree deck.crews read
          c.open_deck-opened.ensures.left;
    }

pub returns-in-Err : goal.returns-in-Err
returns-in-Err g c = record {
  opened = tt;
  ready = tt;
  bears = tt;
  refused =
      refused_for (g.S.Source.held c.args.source.now) (g.S.Source.held c.read_input.new.source)
      (Rose (g.S.Source.faults c.args.source.now) (g.S.Source.faults c.read_input.new.source))
      (for_board c.args.board.asked.most) c.in-Err.end c.in-Err.ensures.refused;
  left = (inl refl, refl);
}
