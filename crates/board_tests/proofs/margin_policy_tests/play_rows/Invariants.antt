use Rattle.std.proofs.Common.{◌≡◌}
use Rattle.board_tests.proofs.margin_policy_tests.play_rows.Given as goal

abbrev pub invariant-loop-row : goal.invariant-loop-row
invariant-loop-row l = l.standing.units ≡ 4095
