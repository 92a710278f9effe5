use Rattle.std.proofs.lemmas.Result.{on_ok_weaker}
use Rattle.cutset_lists.proofs.OrderLemmas.{StartsFrom-order, each-order}
use Rattle.cutset_lists.proofs.gate.each_of.Goals as goal

pub each_in_turn-requires : goal.each_in_turn-requires
each_in_turn-requires c =
    StartsFrom-order c.args.lists.now c.in_ok-order.ensures c.as_slice.ensures.value c.requires

pub returns : goal.returns
returns c =
    on_ok_weaker c.each_in_turn.result (each-order c.args.lists.now c.in_ok-order.ensures c.as_slice.ensures.value
    c.each_in_turn.new.sets)
    c.each_in_turn.ensures
