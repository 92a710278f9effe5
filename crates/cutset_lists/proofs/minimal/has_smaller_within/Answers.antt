use Rattle.std.proofs.Common.{arith, sym}
use Rattle.cutset_lists.proofs.MinimalLemmas.{none_larger}
use Rattle.cutset_lists.proofs.minimal.has_smaller_within.Goals as goal

pub returns-then-smaller-set : goal.returns-then-smaller-set
returns-then-smaller-set c =
    sym (none_larger c.args.set.now c.row-smaller.result.now c.args.sets.now c.loop-i.i (omega arith) c.requires
    c.row-smaller.ensures (omega arith) c.loop-i.invariant)
