use Rattle.live_board.proofs.PassLemmas.{spare_left}
use Rattle.live_board.proofs.pass.Pass.spare.Goals as goal

pub returns : goal.returns
returns c = spare_left c.self.invariant c.self.view_is
