use Rattle.live_board.specs.Turns.{held}
use Rattle.live_board.proofs.TurnLemmas.{held_first}
use Rattle.live_board.proofs.turns.copy_held.Goals as goal

pub slot_mut-requires : goal.slot_mut-requires
slot_mut-requires c =
    let state = held c.args.place.now.me.1 in
    (c.requires.own, (state, held_first state c.requires.holds))
