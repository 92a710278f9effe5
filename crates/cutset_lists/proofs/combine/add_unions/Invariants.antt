use Rattle.std.proofs.Common.{take}
use Rattle.cutset_lists.specs.Sets.{AddsUnions}
use Rattle.cutset_lists.proofs.combine.add_unions.Given as goal

abbrev pub invariant-loop-i : goal.invariant-loop-i
invariant-loop-i l = AddsUnions l.set (take l.i l.list) l.initial.sets l.sets
