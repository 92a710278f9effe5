use Rattle.zdd_families.specs.Map.{Knows}
use Rattle.zdd_shared_table.specs.Seats.{map_of}
use Rattle.store_tests.proofs.zdd_product_tests.small.fills.Given as goal

abbrev pub invariant-loop-number : goal.invariant-loop-number
invariant-loop-number l = record {
  all : Knows (map_of l.ops) l.all;
}
