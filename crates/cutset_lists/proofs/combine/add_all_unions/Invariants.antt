use Rattle.std.proofs.Common.{take}
use Rattle.cutset_lists.specs.Sets.{AddsProduct}
use Rattle.cutset_lists.proofs.combine.add_all_unions.Given as goal

abbrev pub invariant-loop-i : goal.invariant-loop-i
invariant-loop-i l = AddsProduct (take l.i l.left) l.right l.initial.sets l.sets
