use Rattle.live_board.proofs.PassLemmas as asking
use Rattle.live_board.proofs.board.LiveBoard.ask.Goals as goal

pub invariant_of-pass : goal.invariant_of-pass
invariant_of-pass g c =
    rw c.place_after-pass-inside.ensures
    (asking.asked_is_pass c.ask_in_turn-answer.result
    (record { pass = c.pass.invariant; is = c.pass.view_is; of = c.requires.own }) c.ask_in_turn-answer.ensures.turn)

pub returns-clause-live : goal.returns-clause-live
returns-clause-live g c =
    asking.asked_live c.ask_in_turn-answer.result
    (record { pass = c.pass.invariant; is = c.pass.view_is; of = c.requires.own }) c.ask_in_turn-answer.ensures.turn

pub returns-clause-begins : goal.returns-clause-begins
returns-clause-begins g c =
    asking.asked_begins c.ask_in_turn-answer.result
    (record { pass = c.pass.invariant; is = c.pass.view_is; of = c.requires.own }) c.ask_in_turn-answer.ensures.turn

pub returns-clause-ends : goal.returns-clause-ends
returns-clause-ends g c =
    asking.asked_ends c.ask_in_turn-answer.result
    (record { pass = c.pass.invariant; is = c.pass.view_is; of = c.requires.own }) c.ask_in_turn-answer.ensures.turn

pub returns-clause-gains : goal.returns-clause-gains
returns-clause-gains g c =
    asking.asked_gains c.ask_in_turn-answer.result
    (record { pass = c.pass.invariant; is = c.pass.view_is; of = c.requires.own }) c.ask_in_turn-answer.ensures.turn

pub returns-clause-within : goal.returns-clause-within
returns-clause-within g c =
    asking.asked_within c.ask_in_turn-answer.result
    (record { pass = c.pass.invariant; is = c.pass.view_is; of = c.requires.own }) c.ask_in_turn-answer.ensures.turn

pub returns-clause-full : goal.returns-clause-full
returns-clause-full g c =
    asking.asked_full c.ask_in_turn-answer.result
    (record { pass = c.pass.invariant; is = c.pass.view_is; of = c.requires.own }) c.ask_in_turn-answer.ensures.turn

pub returns-clause-unchanged : goal.returns-clause-unchanged
returns-clause-unchanged g c =
    asking.asked_unchanged c.ask_in_turn-answer.result
    (record { pass = c.pass.invariant; is = c.pass.view_is; of = c.requires.own }) c.ask_in_turn-answer.ensures.turn

pub returns-clause-agrees : goal.returns-clause-agrees
returns-clause-agrees g c =
    asking.asked_agrees c.ask_in_turn-answer.result
    (record { pass = c.pass.invariant; is = c.pass.view_is; of = c.requires.own }) c.ask_in_turn-answer.ensures.turn
