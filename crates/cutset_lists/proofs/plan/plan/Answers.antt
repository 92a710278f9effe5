use Rattle.std.proofs.Common.{arith}
use Rattle.cutset_lists.proofs.{GateLemmas.node_read, PlanLemmas.plan_keeps}
use Rattle.cutset_lists.proofs.plan.plan.Goals as goal

pub loop-place-preserved-then-index-place : goal.loop-place-preserved-then-index-place
loop-place-preserved-then-index-place c = record {
  within = omega arith;
  plan =
      plan_keeps _ (omega arith) (omega arith) (node_read c.args.order.now _ (omega arith) c.index-order-place.is)
      c.loop-place.invariant.plan c.below.ensures.below (omega arith) c.keep_until.ensures;
}
