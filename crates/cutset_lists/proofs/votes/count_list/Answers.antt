use Rattle.std.proofs.Common.{arith}
use Rattle.cutset_lists.proofs.CountLemmas.{CountsList-step}
use Rattle.cutset_lists.proofs.votes.count_list.Goals as goal

pub loop-at-preserved : goal.loop-at-preserved
loop-at-preserved c = record {
  above = omega arith;
  within = omega arith;
  counted =
      CountsList-step (omega arith) (omega arith) (omega arith) c.loop-at.invariant.counted c.in_ok-count_more.ensures;
}
