use Rattle.std.proofs.Common.{◌≡◌}
use Rattle.worked_stores.proofs.fill.Given as goal

abbrev pub invariant-loop-number : goal.invariant-loop-number
invariant-loop-number l = record {
  store : l.seat.store ≡ l.initial.seat.store;
  share : l.seat.share ≡ l.initial.seat.share;
}
