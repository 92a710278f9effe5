use Rattle.live_board.proofs.StepLemmas.{allows_divide}
use Rattle.live_board.proofs.sharing.divide.Goals as goal

pub split_seat-requires : goal.split_seat-requires
split_seat-requires c =
    let place = c.args.place.now in (
      c.requires.own,
      c.requires.word,
      allows_divide c.args.words.now.key place.id c.requires.may.of c.requires.may.turn c.requires.spare,
    )
