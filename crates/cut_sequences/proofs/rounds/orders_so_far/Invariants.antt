use Rattle.std.proofs.Common.{◌≡◌, ◌≤◌, ◌*◌, take}
use Rattle.std.specs.List.{sum_by}
use Rattle.cut_sequences.specs.{Orders.order_limit, Working.orders_of_work}
use Rattle.cut_sequences.proofs.rounds.orders_so_far.Given as goal

abbrev pub invariant-loop-work : goal.invariant-loop-work
invariant-loop-work l = record {
  total : l.total ≡ sum_by orders_of_work (take l.work-index l.works);
  few : l.total ≤ l.work-index * order_limit;
}
