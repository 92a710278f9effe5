use Rattle.live_board.proofs.HistoryLemmas.{IsLiveHistory-front}
use Rattle.live_board.proofs.laws.beginnings_are_live.Goals as goal

pub returns : goal.returns
returns c = IsLiveHistory-front
