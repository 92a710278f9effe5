use Rattle.std.proofs.Common.{◌≡◌, drop}
use Rattle.margin_policy.specs.Asked.{has_repeat}
use Rattle.margin_policy.proofs.asked.repeats.Given as goal

abbrev pub invariant-loop-i : goal.invariant-loop-i
invariant-loop-i l = has_repeat l.units ≡ has_repeat (drop l.i l.units)
