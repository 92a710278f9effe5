use Rattle.zdd_families.specs.Map.{Knows, Grown}
use Rattle.zdd_shared_table.specs.Seats.{map_of}
use Rattle.store_tests.proofs.zdd_product_tests.deep.with_pairs.Given as goal

abbrev pub invariant-loop-pair : goal.invariant-loop-pair
invariant-loop-pair l = record {
  keeps : Grown (map_of l.initial.ops) (map_of l.ops);
  made : Knows (map_of l.ops) l.made;
}
