use Rattle.std.proofs.Common.{map, take}
use Rattle.cutset_lists.specs.{Cuts.units_of, Sets.IsMinimalFrom}
use Rattle.cutset_lists.proofs.minimal.few.Given as goal

abbrev pub invariant-loop-cut : goal.invariant-loop-cut
invariant-loop-cut l = IsMinimalFrom (take l.cut-index (map units_of l.cuts)) l.kept
