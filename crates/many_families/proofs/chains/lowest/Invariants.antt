use Rattle.std.proofs.Common.{ℕ, ◌<◌, ◌≤◌, Contains, slice_index}
use Rattle.zdd_families.specs.Map.{level_in}
use Rattle.family_memory.specs.Memory.{Has, map_of}
use Rattle.many_families.proofs.chains.lowest.Given as goal

abbrev pub invariant-loop-place : goal.invariant-loop-place
invariant-loop-place l = record {
  has : Has l.memory l.first;
  least : (at : ℕ) → at < l.place
      → level_in (map_of l.memory) l.first ≤ level_in (map_of l.memory) (slice_index l.list at);
  member : 2 ≤ l.first → Contains l.list l.first;
}
