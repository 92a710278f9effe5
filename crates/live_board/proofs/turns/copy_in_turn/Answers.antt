use Rattle.std.specs.Prelude.{vec_capacity}
use Rattle.live_board.proofs.TurnLemmas as turns
use Rattle.live_board.proofs.turns.copy_in_turn.Goals as goal

pub copy_held-requires-clause-holds : goal.copy_held-requires-clause-holds
copy_held-requires-clause-holds g c = turns.holds_held c.requires.may c.take.ensures.taken

pub copy_held-requires-clause-room : goal.copy_held-requires-clause-room
copy_held-requires-clause-room g c =
    turns.room_of_held c.requires.may c.take.ensures.taken (vec_capacity c.args.entries.now) c.requires.room

pub give-requires-clause-may : goal.give-requires-clause-may
give-requires-clause-may g c =
    turns.may_give_read c.requires.may c.take.ensures.taken c.copy_held.new.place.me c.copy_held.ensures.same

pub returns-clause-turn : goal.returns-clause-turn
returns-clause-turn g c =
    turns.has_read c.requires.may c.take.ensures.taken c.copy_held.new.place.me c.copy_held.ensures.same
    c.give.ensures.given c.copy_held.ensures.entries

pub returns-clause-live : goal.returns-clause-live
returns-clause-live g c =
    turns.read_live c.requires.may c.take.ensures.taken c.copy_held.ensures.live c.copy_held.ensures.entries
