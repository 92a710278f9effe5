use Rattle.std.proofs.Common.{◌≡◌, ◌-◌, []}
use Rattle.zdd_families.specs.Inclusion.{includes_one}
use Rattle.zdd_families.specs.Map.{Knows, family, level_in}
use Rattle.zdd_shared_table.specs.Seats.{map_of}
use Rattle.zdd_product.proofs.ops.Ops.has_empty_set.Given as goal

abbrev pub invariant-loop-self : goal.invariant-loop-self
invariant-loop-self l = record {
  seat : l.self ≡ l.initial.self;
  knows : Knows (map_of l.initial.self) l.lowest;
  empty : includes_one (family (map_of l.initial.self) l.fn.r) []
      ≡ includes_one (family (map_of l.initial.self) l.lowest) [];
}

abbrev pub decreases-loop-self : goal.decreases-loop-self
decreases-loop-self l = 4096 - level_in (map_of l.self) l.lowest
