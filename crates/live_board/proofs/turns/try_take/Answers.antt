use Rattle.live_board.proofs.StepLemmas.{allows_take}
use Rattle.live_board.proofs.turns.try_take.Goals as goal

pub compare_exchange-requires : goal.compare_exchange-requires
compare_exchange-requires c =
    let place = c.args.place.now in (
      c.requires.own,
      c.requires.word,
      allows_take c.args.words.now.key c.args.words.now.table_id.slots place.id c.requires.may,
    )
