use Rattle.std.proofs.Common.{map, take}
use Rattle.cutset_lists.specs.{Cuts.units_of, Sets.IsMinimalFrom, Waiting.AreFilled, Waiting.AreReady}
use Rattle.cutset_lists.proofs.sifting.sift.Given as goal

abbrev pub invariant-loop-cut : goal.invariant-loop-cut
invariant-loop-cut l = record {
  minimal : IsMinimalFrom (take l.cut-index (map units_of l.cuts)) l.kept;
  filled : AreFilled l.kept;
  ready : AreReady l.kept l.waiting;
}
