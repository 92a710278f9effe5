use Rattle.std.proofs.Common.{◌≡◌, take}
use Rattle.cut_texts.proofs.line.Line.common.Given as goal

abbrev pub invariant-loop-i : goal.invariant-loop-i
invariant-loop-i l = record {
  same : take l.i l.self.units.items ≡ take l.i l.units;
}
