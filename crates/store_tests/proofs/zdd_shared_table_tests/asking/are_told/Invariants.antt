use Rattle.std.proofs.Common.{◌≡◌}
use Rattle.store_tests.proofs.zdd_shared_table_tests.asking.are_told.Given as goal

abbrev pub invariant-loop-i : goal.invariant-loop-i
invariant-loop-i l = l.seat.store ≡ l.initial.seat.store
