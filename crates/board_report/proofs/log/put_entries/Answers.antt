use Rattle.std.proofs.Common.{sym, ◌∙◌, ap, is_err}
use Rattle.text_pieces.proofs.Putting.{one_more, cut_short}
use Rattle.board_report.proofs.BoardLemmas.{next_entry}
use Rattle.board_report.proofs.log.put_entries.Goals as goal

pub returns-in_err-put_entry-clause-puts : goal.returns-in_err-put_entry-clause-puts
returns-in_err-put_entry-clause-puts g c =
    cut_short g.K.Sink.taken g.K.Sink.faults _ c.loop-i.invariant.so c.put_entry.ensures.puts
    (next_entry c.args.dockets.now c.args.history.now c.loop-i.i c.loop-i-test.true c.index-history-i.is)
    (sym c.put_entry.ensures.answer ∙ ap is_err c.in_err-put_entry.was)

pub loop-i-preserved : goal.loop-i-preserved
loop-i-preserved g c = record {
  so = one_more g.K.Sink.taken g.K.Sink.faults c.loop-i.invariant.so c.put_entry.ensures.puts
      (next_entry c.args.dockets.now c.args.history.now c.loop-i.i c.loop-i-test.true c.index-history-i.is);
  going = sym c.put_entry.ensures.answer ∙ ap is_err c.in_ok-put_entry.was;
}
