use Rattle.std.specs.Prelude.{◌∷◌, [], None, Some}
use Rattle.std.proofs.Common.{subst, inl, refl}
use Rattle.std.proofs.lemmas.Result.{IfErr-weaker, IfOk-weaker}
use Rattle.tree_maker.specs.{MadeDeck.made_deck, WellMade.made_crew}
use Rattle.deck_reading.specs.{declared.deck.CrewPart.TheVariants.Needed, Faults.IsWellFormed}
use Rattle.outage_engine.specs.{Store.method_by, Texts.for_summary, Texts.summed_most}
use Rattle.outage_engine.proofs.{Answering.fault_for, Answering.limit_for, SeatLemmas.bears_out, SeatLemmas.left_by}
use Rattle.outage_engine.proofs.{Summing.summary_is_text}
use Rattle.outage_engine.proofs.summary.sum_made.Goals as goal

pub returns-in-Ok : goal.returns-in-Ok
returns-in-Ok g c =
    let own = Some (made_deck c.args.number) in
    let deck = c.in-Ok.deck in
    let well = c.in-Ok.ensures.deck in
    record {
      text =
          IfOk-weaker c.sum_deck-summed.result _ _
          (λ summary of.
          summary_is_text c.args.number deck.tree (made_crew c.args.number ∷ []) summary of
          (subst (IsWellFormed Needed (made_deck c.args.number) deck.tree) c.in-Ok.ensures.crew well))
          c.sum_deck-summed.ensures.summed;
      writable = IfOk-weaker c.sum_deck-summed.result _ _ (λ summary of. of.orders) c.sum_deck-summed.ensures.summed;
      bears =
          IfOk-weaker c.sum_deck-summed.result _ _
          (λ summary found.
          bears_out own None None c.args.seat.now c.sum_deck-summed.new.seat Needed deck.tree deck.crews well
          (method_by summary.listing.root) found)
          c.sum_deck-summed.ensures.found;
      refused =
          IfErr-weaker c.sum_deck-summed.result _ _
          (λ end limit. limit_for own None None ⊥ deck.tree deck.crews Needed summed_most end well limit)
          c.sum_deck-summed.ensures.limit;
      left =
          left_by own None None c.args.seat.now c.sum_deck-summed.new.seat Needed deck.tree deck.crews well
          c.sum_deck-summed.ensures.left;
    }

pub returns-in-Err : goal.returns-in-Err
returns-in-Err g c = record {
  text = tt;
  writable = tt;
  bears = tt;
  refused = fault_for (made_deck c.args.number) for_summary c.in-Err.end c.in-Err.ensures.refused;
  left = (inl refl, refl);
}
