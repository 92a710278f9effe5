use Rattle.live_board.proofs.PassLemmas.{may_step}
use Rattle.live_board.proofs.board.LiveBoard.split.Goals as goal

pub divide-seat-requires-clause-may : goal.divide-seat-requires-clause-may
divide-seat-requires-clause-may c = may_step c.pass.invariant c.pass.view_is c.requires.own c.self.view_is
