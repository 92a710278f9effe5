use Rattle.std.proofs.Common.{◌≡◌, [], replicate}
use Rattle.cutset_lists.proofs.room.Room.no_lists.Given as goal

abbrev pub invariant-loop-i : goal.invariant-loop-i
invariant-loop-i l = l.lists.items ≡ replicate l._i []
