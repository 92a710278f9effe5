use Rattle.outage_board.proofs.SafetyLemmas.{board_is_safe}
use Rattle.outage_board.proofs.laws.boards_are_safe.Goals as goal

pub returns : goal.returns
returns c = board_is_safe
