use Rattle.live_board.proofs.StateLemmas.{opens}
use Rattle.live_board.proofs.state.LiveState.open.Goals as goal

pub invariant_of-result : goal.invariant_of-result
invariant_of-result c =
    opens c.args.units c.args.cuts.now c.args.margin c.args.supervisor c.args.passes c.args.room _
    c.in_ok-standing.ensures c.in_ok-history.ensures.items c.in_ok-history.ensures.capacity c.requires.room
