use Rattle.std.proofs.lemmas.Result.{on_ok_weaker}
use Rattle.cutset_lists.proofs.OrderLemmas.{StartsFrom-order, at_least-order}
use Rattle.cutset_lists.proofs.votes.at_least.Goals as goal

pub at_least_in_turn-requires : goal.at_least_in_turn-requires
at_least_in_turn-requires c =
    StartsFrom-order c.args.lists.now c.in_ok-order.ensures c.as_slice.ensures.value c.requires

pub returns : goal.returns
returns c =
    on_ok_weaker c.at_least_in_turn.result (at_least-order c.args.lists.now c.in_ok-order.ensures
    c.as_slice.ensures.value c.args.least c.at_least_in_turn.new.sets)
    c.at_least_in_turn.ensures
