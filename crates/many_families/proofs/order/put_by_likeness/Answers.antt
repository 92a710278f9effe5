use Rattle.std.proofs.lemmas.List.Sorted.{All-permutation, IsPermutation-trans}
use Rattle.family_memory.specs.Memory.{Has}
use Rattle.many_families.proofs.order.put_by_likeness.Goals as goal

pub loop-at-preserved : goal.loop-at-preserved
loop-at-preserved c = record {
  moved = IsPermutation-trans c.args.list.now c.loop-at.places c.swap.new.self c.loop-at.invariant.moved
      c.swap.ensures.permutation;
  has = All-permutation (Has c.args.memory.now) c.loop-at.places c.swap.new.self c.swap.ensures.permutation
      c.loop-at.invariant.has;
}
