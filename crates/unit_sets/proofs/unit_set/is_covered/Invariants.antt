use Rattle.std.proofs.Common.{◌≡◌, ◌<◌, ℕ, slice_index, bit_and}
use Rattle.unit_sets.proofs.unit_set.is_covered.Given as goal

abbrev pub invariant-loop-k : goal.invariant-loop-k
invariant-loop-k l =
    (j : ℕ) → j < l.k → bit_and (slice_index l.words j) (slice_index l.others j) ≡ slice_index l.words j
