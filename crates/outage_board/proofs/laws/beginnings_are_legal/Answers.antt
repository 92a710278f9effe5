use Rattle.outage_board.proofs.HistoryLemmas.{IsLegal-parts}
use Rattle.outage_board.proofs.laws.beginnings_are_legal.Goals as goal

pub returns : goal.returns
returns c = IsLegal-parts
