use Rattle.live_board.proofs.StepLemmas.{allows_give}
use Rattle.live_board.proofs.turns.give.Goals as goal

pub swap-requires : goal.swap-requires
swap-requires c =
    let place = c.args.place.now in (
      c.requires.own,
      c.requires.word,
      allows_give c.args.words.now.key c.args.words.now.table_id.slots place.id c.requires.may,
    )
