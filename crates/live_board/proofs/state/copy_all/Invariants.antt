use Rattle.std.proofs.Common.{◌≡◌, ◌≤◌, length, take}
use Rattle.std.specs.Prelude.{vec_capacity}
use Rattle.live_board.proofs.state.copy_all.Given as goal

abbrev pub invariant-loop-made : goal.invariant-loop-made
invariant-loop-made l = record {
  copied : l.copy.items ≡ take l.made-index l.history;
  room : length l.history ≤ vec_capacity l.copy;
}
