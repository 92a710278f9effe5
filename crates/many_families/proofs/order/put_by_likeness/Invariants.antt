use Rattle.std.proofs.Common.{All}
use Rattle.std.specs.List.Sorted.{IsPermutation}
use Rattle.family_memory.specs.Memory.{Has}
use Rattle.many_families.proofs.order.put_by_likeness.Given as goal

abbrev pub invariant-loop-at : goal.invariant-loop-at
invariant-loop-at l = record {
  moved : IsPermutation l.list l.places;
  has : All (Has l.memory) l.places;
}
