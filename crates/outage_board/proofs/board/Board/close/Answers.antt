use Rattle.std.proofs.Common.{◌≡◌, ℕ, ◌<◌, length, sym, ◌∙◌, ap, subst}
use Rattle.outage_board.specs.Rule.{times_of}
use Rattle.outage_board.proofs.{TimesLemmas.AreMade, TableLemmas.IsClosed, TableLemmas.closes_table}
use Rattle.outage_board.proofs.{PassLemmas.made_all, PassLemmas.times_back, board.Board.close.Goals.After-emptied}
use Rattle.outage_board.proofs.board.Board.close.Goals as goal

closed : (c : After-emptied) → IsClosed c.self.inside.table.shared.key.value.deck c.gathered-place.result.me.0
    c.emptied.result
closed c =
    let place = c.gathered-place.result in
    let crews : length c.self.inside.table.shared.key.value.deck.crews ≡ length c.args.self.deck.crews =
    ap (λ b. length b.deck.crews) c.self.view_is in
    closes_table c.self.inside.table.shared.key place.id place.me.0 _ _ c.emptied.result c.close_with.ensures.values.2
    c.emptied.ensures c.gathered-place.ensures.place.turn
    (λ crew low. subst (λ l. 0 < times_of crew l) (sym c.gathered-place.ensures.crews)
    (times_back c.args.passes.passes crew (c.requires.all crew (subst (λ (n : ℕ). crew < n) crews low))))

pub returns-clause-deck : goal.returns-clause-deck
returns-clause-deck c = (closed c).own ∙ ap (λ b. b.deck) c.self.view_is

pub returns-clause-made : goal.returns-clause-made
returns-clause-made c =
    made_all c.emptied.result.history c.args.passes.passes
    (subst (AreMade c.emptied.result.history) c.gathered-place.ensures.crews (closed c).made)
