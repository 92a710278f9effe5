use Rattle.std.proofs.Common.{sym, ◌∙◌, ap, is_err, arith, length}
use Rattle.margin_policy.proofs.HeldLaws.{is_held}
use Rattle.board_report.specs.BoardText.{out_line}
use Rattle.board_report.proofs.BoardLemmas.{none_first, no_line, line_put, line_short}
use Rattle.board_report.proofs.holders.put_out_lines.Goals as goal

pub loop-number-init : goal.loop-number-init
loop-number-init g c = record {
  so =
      no_line g.K.Sink.taken g.K.Sink.faults (out_line c.args.end.now.tree.now c.args.end.now.dockets.now
      c.args.end.now.standing.now.held) (is_held c.args.end.now.standing.now.held)
      (none_first c.args.end.now.standing.now.held c.holds_units_alone.ensures.none);
  going = c.requires.fine;
}

pub returns-in_err-put_if_out-clause-puts : goal.returns-in_err-put_if_out-clause-puts
returns-in_err-put_if_out-clause-puts g c =
    line_short g.K.Sink.taken g.K.Sink.faults (out_line c.args.end.now.tree.now c.args.end.now.dockets.now
    c.args.end.now.standing.now.held)
    (is_held c.args.end.now.standing.now.held) c.loop-number.number (length c.args.end.now.standing.now.held) (omega (
      arith,
      c.loop-number-test.true,
      c.last_unit-number-end.ensures.last,
      c.requires.end.units,
      c.holds_units_alone.ensures.all,
    ))
    c.loop-number.invariant.so c.put_if_out.ensures.puts
    (sym c.put_if_out.ensures.answer ∙ ap is_err c.in_err-put_if_out.was)

pub loop-number-preserved : goal.loop-number-preserved
loop-number-preserved g c = record {
  so =
      line_put g.K.Sink.taken g.K.Sink.faults (out_line c.args.end.now.tree.now c.args.end.now.dockets.now
      c.args.end.now.standing.now.held)
      (is_held c.args.end.now.standing.now.held) c.loop-number.number c.loop-number.invariant.so
      c.put_if_out.ensures.puts;
  going = sym c.put_if_out.ensures.answer ∙ ap is_err c.in_ok-put_if_out.was;
}
