use Rattle.std.proofs.Common.{arith, ap}
use Rattle.cutset_lists.proofs.PlanLemmas.{Keeps-raised, Keeps-stays}
use Rattle.cutset_lists.proofs.plan.keep_until.Goals as goal
use Rattle.cutset_lists.proofs.plan.keep_until.Goals.{then-index-end, else-index-end}

pub loop-node-preserved : goal.loop-node-preserved
loop-node-preserved c =
    elim c.if-index-end.branch [
      | then-index-end w ↦
          Keeps-raised c.args.nodes.now c.loop-node.node-index c.args.end c.args.until.now.items c.loop-node.until.items
          c.if-index-end.until.items
          (omega arith) c.node-item.is c.requires c.index-place.ensures c.index.ensures c.loop-node.invariant
          (omega arith) (ap (λ v. v.items) w.until-is)
      | else-index-end w ↦
          Keeps-stays c.args.nodes.now c.loop-node.node-index c.args.end c.args.until.now.items c.loop-node.until.items
          c.if-index-end.until.items
          (omega arith) c.node-item.is c.requires c.index-place.ensures c.index.ensures c.loop-node.invariant
          (omega arith) (ap (λ v. v.items) w.until-is)
    ]
