use Rattle.std.proofs.Common.{ap}
use Rattle.outage_board.proofs.StepLemmas.{allows_split}
use Rattle.outage_board.proofs.dealing.deal.Goals as goal

pub split_seat-requires : goal.split_seat-requires
split_seat-requires c =
    let place = c.args.place.now in
    let is = c.requires.place in (
      c.requires.own,
      c.requires.word,
      allows_split c.args.words.now.key place.id place.me.0
          (ap (λ m. m.0.opened.deck) is) (ap (λ m. m.0.turn) is),
    )
