use Rattle.std.proofs.Common.{arith, ap, subst, sym}
use Rattle.cutset_lists.specs.Plan.{Releases}
use Rattle.cutset_lists.proofs.PlanLemmas.{Releases-step}
use Rattle.cutset_lists.proofs.bottom_up.release.Goals as goal
use Rattle.cutset_lists.proofs.bottom_up.release.Goals.{then-until-place, else-until-place}

pub loop-node-preserved : goal.loop-node-preserved
loop-node-preserved c =
    elim c.if-until-place.branch [
      | then-until-place w ↦
          Releases-step c.args.nodes.now c.loop-node.node-index
          (omega arith) c.node-item.is c.requires.nodes c.index-place.ensures (omega arith) w.no_sets.ensures
          (ap (λ v. v.items) w.lists-is) c.loop-node.invariant
      | else-until-place w ↦ subst (Releases c.args.until.now c.args.end c.args.lists.now.items)
          (ap (λ v. v.items) (sym w.lists-is)) c.loop-node.invariant
    ]
