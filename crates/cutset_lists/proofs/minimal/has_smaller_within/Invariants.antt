use Rattle.std.proofs.Common.{◌≡◌, take, false}
use Rattle.std.specs.List.{list_any}
use Rattle.cutset_lists.specs.Sets.{is_smaller_within}
use Rattle.cutset_lists.proofs.minimal.has_smaller_within.Given as goal

abbrev pub invariant-loop-i : goal.invariant-loop-i
invariant-loop-i l = list_any (is_smaller_within l.set) (take l.i l.sets) ≡ false
