use Rattle.std.proofs.Common.{◌≡◌, ℕ, ◌<◌, ◌≤◌, length, slice_index}
use Rattle.many_families.specs.Chains.{IsLowered}
use Rattle.many_families.proofs.chains.lower_all.Given as goal

abbrev pub invariant-loop-place : goal.invariant-loop-place
invariant-loop-place l = record {
  size : length l.list ≡ length l.initial.list;
  lowered : (at : ℕ) → at < l.place
      → IsLowered l.memory l.level (slice_index l.initial.list at) (slice_index l.list at);
  waiting : (at : ℕ) → l.place ≤ at → slice_index l.list at ≡ slice_index l.initial.list at;
}
