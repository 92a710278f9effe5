use Rattle.std.proofs.Common.{◌≡◌, ◌<◌, length, sym, subst}
use Rattle.outage_board.specs.{Boards.BoardView, declared.entry.Entry.Entry, Passes.entries_made}
use Rattle.outage_board.proofs.ServingLemmas as serving
use Rattle.outage_board.proofs.turns.serve_in_turn.Goals as goal

pub take-requires-clause-may : goal.take-requires-clause-may
take-requires-clause-may g c =
    serving.may_ask c.args.words.now.key.value.deck c.args.place.now.me c.args.crew c.requires.deck c.requires.pass

pub serve_held-entry-requires-clause-crew : goal.serve_held-entry-requires-clause-crew
serve_held-entry-requires-clause-crew g c =
    let before = c.args.place.now.me in
    let taken = c.take.new.place.me in
    subst (λ (b : BoardView). c.args.crew.0 < length b.deck.crews)
    (sym (serving.held_is c.args.crew before taken c.requires.pass c.take.ensures.taken))
    (serving.crew_low c.args.crew before taken c.requires.pass c.take.ensures.taken)

pub give-requires-clause-may : goal.give-requires-clause-may
give-requires-clause-may g c =
    let served = c.serve_held-entry in
    serving.may_give c.args.crew c.args.place.now.me c.take.new.place.me c.requires.pass c.take.ensures.taken
    served.result served.ensures.entry served.new.place.me served.ensures.holds
    c.args.words.now.key.value.deck c.requires.deck

pub returns-clause-none : goal.returns-clause-none
returns-clause-none g c =
    let served = c.serve_held-entry in
    serving.none_when c.args.crew c.args.place.now.me c.take.new.place.me c.requires.pass c.take.ensures.taken
    served.result served.ensures.entry served.ensures.used_up

pub returns-clause-place : goal.returns-clause-place
returns-clause-place g c =
    let served = c.serve_held-entry in
    serving.if_some (λ (entry : Entry). entry.place ≡ length (entries_made c.args.place.now.me.0.crews)) served.result
    (serving.at_place c.args.crew c.args.place.now.me c.take.new.place.me c.requires.pass c.take.ensures.taken
    served.result served.ensures.entry)

pub returns-clause-made : goal.returns-clause-made
returns-clause-made g c =
    let served = c.serve_held-entry in
    serving.now_made c.args.crew c.args.place.now.me c.take.new.place.me c.requires.pass c.take.ensures.taken
    served.result served.ensures.entry served.new.place.me served.ensures.holds
    c.give.new.place.me c.give.ensures.given
