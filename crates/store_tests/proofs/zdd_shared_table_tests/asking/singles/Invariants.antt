use Rattle.std.proofs.Common.{◌≡◌}
use Rattle.store_tests.proofs.zdd_shared_table_tests.asking.singles.Given as goal

abbrev pub invariant-loop-level : goal.invariant-loop-level
invariant-loop-level l = l.seat.store ≡ l.initial.seat.store
