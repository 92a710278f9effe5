use Rattle.live_board.proofs.PassLemmas as asking
use Rattle.live_board.proofs.board.LiveBoard.log.Goals as goal

pub invariant_of-pass : goal.invariant_of-pass
invariant_of-pass g c = asking.read_is_pass c.pass.invariant c.copy_in_turn.ensures.turn

pub returns-clause-agrees : goal.returns-clause-agrees
returns-clause-agrees g c = asking.read_agrees c.pass.invariant c.copy_in_turn.ensures.turn

pub returns-clause-stays : goal.returns-clause-stays
returns-clause-stays g c =
    asking.read_stays c.pass.invariant c.copy_in_turn.ensures.turn c.copy_in_turn.ensures.stays.0 c.pass.view_is
