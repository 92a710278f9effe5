use Rattle.std.proofs.Common.{◌≡◌, ◌+◌, false, drop}
use Rattle.edge_io.specs.Out.{has_failed}
use Rattle.board_report.specs.BoardText.{left_lines}
use Rattle.text_pieces.proofs.Putting.{PutsFront}
use Rattle.board_report.proofs.left.put_left.Given as goal

abbrev pub invariant-loop-i : goal.invariant-loop-i
invariant-loop-i g l = record {
  so : PutsFront g.K.Sink.taken g.K.Sink.faults l.initial.out l.out
      (left_lines l.ledger.out (l.i + 1) (drop l.i l.ledger.cuts)) (left_lines l.ledger.out 1 l.ledger.cuts);
  going : has_failed l.out ≡ false;
}
