use Rattle.outage_board.proofs.SafetyLemmas.{keeps_more}
use Rattle.outage_board.proofs.laws.legal_histories_keep_more.Goals as goal

pub returns : goal.returns
returns c = keeps_more
