use Rattle.outage_board.proofs.Whole.{whole_where_used_up}
use Rattle.outage_board.proofs.laws.used_up_board_is_whole.Goals as goal

pub returns : goal.returns
returns c = whole_where_used_up
