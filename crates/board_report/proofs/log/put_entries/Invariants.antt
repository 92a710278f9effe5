use Rattle.std.proofs.Common.{◌≡◌, ◌+◌, false, drop}
use Rattle.edge_io.specs.Out.{has_failed}
use Rattle.board_report.specs.LogText.{entry_lines}
use Rattle.text_pieces.proofs.Putting.{PutsFront}
use Rattle.board_report.proofs.log.put_entries.Given as goal

abbrev pub invariant-loop-i : goal.invariant-loop-i
invariant-loop-i g l = record {
  so : PutsFront g.K.Sink.taken g.K.Sink.faults l.initial.out l.out
      (entry_lines l.dockets (l.i + 1) (drop l.i l.history)) (entry_lines l.dockets 1 l.history);
  going : has_failed l.out ≡ false;
}
