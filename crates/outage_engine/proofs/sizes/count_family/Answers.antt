use Rattle.outage_engine.proofs.ByDiagram.{counts_of_root, few_counted, limit_without, too_heavy}
use Rattle.outage_engine.specs.Answers.{IsWeightLimitOf}
use Rattle.outage_engine.proofs.sizes.count_family.Goals as goal

pub overflow_sub-result : goal.overflow_sub-result
overflow_sub-result c =
    few_counted c.args.tree.now c.args.seat.now c.args.root c.requires.root c.in-Ok.ensures.sets c.in-Ok.ensures.weight

pub returns-in_ok-nodes-in-Ok-clause-counts : goal.returns-in_ok-nodes-in-Ok-clause-counts
returns-in_ok-nodes-in-Ok-clause-counts c =
    counts_of_root c.args.tree.now c.args.seat.now c.args.root c.requires.root c.in-Ok.ensures.sets
    c.in-Ok.ensures.weight c.in-Ok.ensures.within
    (rw c.size.ensures.seat at c.in_ok-nodes-in-Ok.ensures.count)

pub returns-in-Err-clause-limit : goal.returns-in-Err-clause-limit
returns-in-Err-clause-limit c =
    rw c.end_of.ensures (limit_without (IsWeightLimitOf c.args.tree.now) c.in-Err.end
    (λ is. too_heavy c.args.tree.now c.args.seat.now c.args.root c.requires.root (c.in-Err.ensures.limit is)))
