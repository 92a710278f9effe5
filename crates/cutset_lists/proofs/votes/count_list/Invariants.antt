use Rattle.std.proofs.Common.{◌≤◌, length}
use Rattle.cutset_lists.specs.Counts.{CountsList}
use Rattle.cutset_lists.proofs.votes.count_list.Given as goal

abbrev pub invariant-loop-at : goal.invariant-loop-at
invariant-loop-at l =
    record {
      above : l.lowest ≤ l.at;
      within : l.at ≤ length l.initial.counts.items;
      counted : CountsList l.list l.at l.initial.counts.items l.counts.items;
    }

abbrev pub decreases-loop-at : goal.decreases-loop-at
decreases-loop-at l = l.at
