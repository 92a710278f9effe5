use Rattle.std.proofs.Common.{◌≡◌, [], replicate}
use Rattle.flat_rows.proofs.growing.empty_lists.Given as goal

abbrev pub invariant-loop : goal.invariant-loop
invariant-loop g l = l.lists.items ≡ replicate l.counter []
