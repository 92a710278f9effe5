use Rattle.live_board.proofs.StepLemmas.{allows_look}
use Rattle.live_board.proofs.sharing.look.Goals as goal

pub load-requires : goal.load-requires
load-requires c =
    let place = c.args.place.now in (
      c.requires.own,
      c.requires.word,
      allows_look c.args.words.now.key c.args.words.now.table_id.slots place.id c.requires.may,
    )
