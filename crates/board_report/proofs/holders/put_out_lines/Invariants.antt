use Rattle.std.proofs.Common.{◌≡◌, false}
use Rattle.edge_io.specs.Out.{has_failed, Puts}
use Rattle.margin_policy.proofs.HeldLaws.{is_held}
use Rattle.board_report.specs.BoardText.{out_line}
use Rattle.board_report.proofs.BoardLemmas.{lines_below}
use Rattle.board_report.proofs.holders.put_out_lines.Given as goal

abbrev pub invariant-loop-number : goal.invariant-loop-number
invariant-loop-number g l = record {
  so : Puts g.K.Sink.taken g.K.Sink.faults l.initial.out l.out
      (lines_below g.K.Sink.taken g.K.Sink.faults (out_line l.end.tree.now l.end.dockets.now
      l.end.standing.now.held) (is_held l.end.standing.now.held)
      l.number);
  going : has_failed l.out ≡ false;
}
