use Rattle.std.specs.Prelude.{Some}
use Rattle.std.proofs.{Common.sym, Common.subst, lemmas.Result.IfErr-weaker, lemmas.Result.IfOk-weaker}
use Rattle.outage_engine.specs.{declared.listing.Listing.Listing, Answers.IfRefused, Answers.IsLimitOf}
use Rattle.outage_engine.specs.{Openings.IsOpenedFor, Store.IsFoundBy, Store.method_by}
use Rattle.outage_engine.proofs.Serving.{opened_for, ready}
use Rattle.outage_engine.proofs.opening.open_deck.Goals as goal

pub returns-in-Ok : goal.returns-in-Ok
returns-in-Ok g c =
    let board = c.args.board in
    let listing = c.in-Ok.listing in
    let crews = Some c.in-Some.dockets in
    record {
      opened =
          IfOk-weaker c.open_listing.result _ _
          (λ opened with.
          subst (λ crews. IsOpenedFor board.margin board.asked.most c.args.tree crews opened) (sym c.in-Some.is)
          (opened_for board.margin crews opened c.in-Ok.ensures.listed with)) c.open_listing.ensures.opened;
      ready =
          IfOk-weaker c.open_listing.result _ _
          (λ opened with. ready board.margin crews opened c.in-Ok.ensures.listed.units with)
          c.open_listing.ensures.opened;
      found =
          IfOk-weaker c.open_listing.result _ _
          (λ opened with.
          subst (λ (l : Listing). IsFoundBy c.args.seat.now c.list_tree.new.seat c.args.tree (method_by l.root))
          (sym with.0) c.in-Ok.ensures.found)
          c.open_listing.ensures.opened;
      limit =
          IfErr-weaker c.open_listing.result _ _
          (λ end is. subst (IfRefused (IsLimitOf board.asked.most c.args.tree)) (sym is) tt)
          c.open_listing.ensures.free;
      left = c.list_tree.ensures.left;
    }
