use Rattle.std.specs.Prelude.{◌≡◌, List, ◌∷◌, [], length, Some}
use Rattle.std.proofs.Common.{sym, ap, subst, ◌∙◌}
use Rattle.std.proofs.lemmas.Result.{IfErr-weaker, IfOk-weaker}
use Rattle.crew_script.specs.declared.dockets.Crew.{Crew}
use Rattle.tree_maker.specs.WellMade.{made_crew}
use Rattle.outage_engine.specs.{declared.listing.Listing.Listing, Answers.IfRefused, Answers.IsLimitOf, Store.IsFoundBy}
use Rattle.outage_engine.specs.{Store.method_by, Summaries.IsServedFor, Texts.summed_most}
use Rattle.outage_engine.proofs.Summing.{summary_of}
use Rattle.outage_engine.proofs.summary.sum_deck.Goals as goal

some_is : (one two : List Crew) → Some one ≡ Some two → one ≡ two
some_is one two same = cc

pub serve_listing-requires-clause-one : goal.serve_listing-requires-clause-one
serve_listing-requires-clause-one g c =
    ap length (some_is c.in-Some.dockets (made_crew c.args.number ∷ []) (sym c.in-Some.is ∙ c.requires.crew))

pub returns-in-Ok : goal.returns-in-Ok
returns-in-Ok g c =
    let listing = c.in-Ok.listing in
    let crews = made_crew c.args.number ∷ [] in
    record {
      summed =
          IfOk-weaker c.serve_listing.result _ _
          (λ summary served.
          summary_of c.args.number c.args.tree crews summary c.in-Ok.ensures.listed
          (subst (λ crews. IsServedFor c.args.number listing crews summary)
          (some_is c.in-Some.dockets crews (sym c.in-Some.is ∙ c.requires.crew)) served))
          c.serve_listing.ensures.summed;
      found =
          IfOk-weaker c.serve_listing.result _ _
          (λ summary served.
          subst (λ (l : Listing). IsFoundBy c.args.seat.now c.list_tree.new.seat c.args.tree (method_by l.root))
          (sym served.of_listing) c.in-Ok.ensures.found)
          c.serve_listing.ensures.summed;
      limit =
          IfErr-weaker c.serve_listing.result _ _
          (λ end is. subst (IfRefused (IsLimitOf summed_most c.args.tree)) (sym is) tt)
          c.serve_listing.ensures.free;
      left = c.list_tree.ensures.left;
    }
