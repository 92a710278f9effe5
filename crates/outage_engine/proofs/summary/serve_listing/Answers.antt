use Rattle.std.proofs.Common.{refl, ap, ◌∙◌}
use Rattle.outage_board.specs.Boards.{BoardView}
use Rattle.outage_engine.proofs.summary.serve_listing.Goals as goal

pub returns-in-Ok : goal.returns-in-Ok
returns-in-Ok c = record {
  summed = record {
    of_number = refl;
    of_listing = refl;
    deck = c.serve_crew.ensures.deck ∙ ap (λ (board : BoardView). board.deck) c.in-Ok.ensures;
    legal = c.serve_crew.ensures.legal;
    whole = c.serve_crew.ensures.whole;
  };
  free = tt;
}
