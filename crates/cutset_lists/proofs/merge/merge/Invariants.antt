use Rattle.std.proofs.Common.{length, ◌-◌, ◌+◌, ◌≤◌}
use Rattle.cutset_lists.proofs.MergeLemmas.{IsMerging}
use Rattle.cutset_lists.proofs.merge.merge.Given as goal

abbrev pub invariant-loop-i : goal.invariant-loop-i
invariant-loop-i l =
    record {
      left_short : l.i ≤ length l.left;
      right_short : l.j ≤ length l.right;
      merging : IsMerging l.left l.right l.i l.j l.union.items;
    }

abbrev pub decreases-loop-i : goal.decreases-loop-i
decreases-loop-i l = (length l.left - l.i) + (length l.right - l.j)
