use Rattle.board_report.specs.BoardText.{IsDeckOf}
use Rattle.board_report_tests.proofs.puts.serve_in_order.Given as goal

abbrev pub invariant-loop-digit : goal.invariant-loop-digit
invariant-loop-digit l = IsDeckOf l.tree l.board.deck
