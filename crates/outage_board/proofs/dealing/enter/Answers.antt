use Rattle.outage_board.proofs.StepLemmas.{allows_enter}
use Rattle.outage_board.proofs.dealing.enter.Goals as goal

pub load_new_seat-place-requires : goal.load_new_seat-place-requires
load_new_seat-place-requires c = (c.requires.word, allows_enter c.args.words.now.key c.args.words.now.table_id.slots)
