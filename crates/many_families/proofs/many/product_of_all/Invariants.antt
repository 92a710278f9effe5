use Rattle.std.proofs.Common.{take}
use Rattle.zdd_families.specs.Least.{IsLeastProductOfAll}
use Rattle.family_memory.specs.Memory.{Has, Went, family_in}
use Rattle.many_families.specs.Lists.{families}
use Rattle.many_families.proofs.many.product_of_all.Given as goal

abbrev pub invariant-loop-place : goal.invariant-loop-place
invariant-loop-place l = record {
  went : Went l.initial.memory l.memory;
  has : Has l.memory l.made;
  made : IsLeastProductOfAll (take l.place (families l.initial.memory l.list)) (family_in l.memory l.made);
}
