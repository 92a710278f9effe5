use Rattle.std.proofs.Common.{◌≡◌}
use Rattle.zdd_families.specs.Map.{Knows, Grown}
use Rattle.zdd_shared_table.specs.Seats.{map_of}
use Rattle.worked_families.proofs.family_of.Given as goal

abbrev pub invariant-loop-number : goal.invariant-loop-number
invariant-loop-number l = record {
  store : l.ops.store ≡ l.initial.ops.store;
  keeps : Grown (map_of l.initial.ops) (map_of l.ops);
  all : Knows (map_of l.ops) l.all;
  set : Knows (map_of l.ops) l.set;
}
