use Rattle.std.proofs.Common.{take}
use Rattle.cutset_lists.specs.{Sets.Splits, Waiting.AreReady}
use Rattle.cutset_lists.proofs.split.spread.Given as goal

abbrev pub invariant-loop-i : goal.invariant-loop-i
invariant-loop-i l = record {
  splits : Splits (take l.i l.list) l.other l.initial.including l.including l.rest;
  ready : AreReady l.other l.waiting;
}
