use Rattle.std.proofs.Common.{◌≡◌}
use Rattle.board_tests.proofs.residual_ledger_tests.steps_held.Given as goal

abbrev pub invariant-loop-step : goal.invariant-loop-step
invariant-loop-step l = l.ledger.units ≡ 4095
