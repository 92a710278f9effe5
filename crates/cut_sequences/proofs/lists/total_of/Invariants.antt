use Rattle.std.proofs.Common.{◌≡◌, ◌≤◌, ◌*◌, take}
use Rattle.std.specs.List.{sum_by}
use Rattle.cut_sequences.specs.Orders.{order_limit, order_total}
use Rattle.cut_sequences.proofs.lists.total_of.Given as goal

abbrev pub invariant-loop-share : goal.invariant-loop-share
invariant-loop-share l = record {
  total : l.total ≡ sum_by order_total (take l.share-index l.shares);
  few : l.total ≤ l.share-index * order_limit;
}
