use Rattle.std.proofs.Common.{◌≡◌, map, take}
use Rattle.cutset_lists.specs.Cuts.{units_of}
use Rattle.cutset_lists.proofs.minimal.sorted.Given as goal

abbrev pub invariant-loop-i : goal.invariant-loop-i
invariant-loop-i l = map units_of l.cuts.items ≡ take l.i l.sets
