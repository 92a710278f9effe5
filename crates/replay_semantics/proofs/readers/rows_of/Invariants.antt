use Rattle.std.proofs.Common.{◌≡◌, take}
use Rattle.replay_semantics.proofs.readers.rows_of.Given as goal

abbrev pub invariant-loop-list : goal.invariant-loop-list
invariant-loop-list l = l.rows ≡ take l.list-index l.lists
