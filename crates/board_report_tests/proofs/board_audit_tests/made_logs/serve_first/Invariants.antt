use Rattle.board_report.specs.BoardText.{IsDeckOf}
use Rattle.board_report_tests.proofs.board_audit_tests.made_logs.serve_first.Given as goal

abbrev pub invariant-loop-turn : goal.invariant-loop-turn
invariant-loop-turn l = IsDeckOf l.tree l.board.deck
