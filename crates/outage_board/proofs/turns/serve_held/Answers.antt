use Rattle.outage_board.specs.Turns.{held}
use Rattle.outage_board.proofs.ServingLemmas.{held_first}
use Rattle.outage_board.proofs.turns.serve_held.Goals as goal

pub slot_mut-requires : goal.slot_mut-requires
slot_mut-requires c =
    let state = held c.args.place.now.me.1 in
    (c.requires.own, (state, held_first state c.requires.holds))
