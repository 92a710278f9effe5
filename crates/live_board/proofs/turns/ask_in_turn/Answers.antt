use Rattle.live_board.proofs.TurnLemmas as turns
use Rattle.live_board.proofs.turns.ask_in_turn.Goals as goal

pub answer_held-answer-requires-clause-holds : goal.answer_held-answer-requires-clause-holds
answer_held-answer-requires-clause-holds g c = turns.holds_held c.requires.may c.take.ensures.taken

pub answer_held-answer-requires-clause-asked : goal.answer_held-answer-requires-clause-asked
answer_held-answer-requires-clause-asked g c =
    turns.asked_of_held c.requires.may c.take.ensures.taken c.args.call.now c.requires.asked

pub answer_held-answer-requires-clause-place : goal.answer_held-answer-requires-clause-place
answer_held-answer-requires-clause-place g c =
    turns.counted c.requires.may c.take.ensures.taken c.args.call.now c.requires.first

pub give-requires-clause-may : goal.give-requires-clause-may
give-requires-clause-may g c =
    let answered = c.answer_held-answer in
    turns.may_give_answered c.requires.may c.take.ensures.taken c.args.call.now answered.result c.requires.number
    answered.new.place.me answered.ensures.holds

pub returns-clause-turn : goal.returns-clause-turn
returns-clause-turn g c =
    let answered = c.answer_held-answer in
    turns.has_asked c.requires.may c.take.ensures.taken c.args.call.now answered.result c.requires.number
    answered.new.place.me answered.ensures.holds c.give.ensures.given answered.ensures.right answered.ensures.live
