use Rattle.std.proofs.Common.{◌≡◌, length, ◌*◌}
use Rattle.unit_sets.specs.Words.{passing_below}
use Rattle.unit_sets.proofs.unit_set.count_outside.Given as goal
use Rattle.unit_sets.proofs.WordSets.{only_in}

abbrev pub invariant-loop-k : goal.invariant-loop-k
invariant-loop-k l = l.count ≡ length (passing_below (only_in l.words l.others) (64 * l.k))
