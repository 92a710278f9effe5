use Rattle.std.proofs.Common.{sym, ◌∙◌, ap, subst, is_err, ◌<◌, ◌≤◌, length}
use Rattle.board_report.specs.BoardText.{left_lines}
use Rattle.text_pieces.proofs.Putting.{begun, whole_put, one_more, cut_short, PutsFront}
use Rattle.board_report.proofs.BoardLemmas.{next_left, none_left}
use Rattle.board_report.proofs.left.put_left.Goals as goal

pub loop-i-init : goal.loop-i-init
loop-i-init g c = record {
  so = begun g.K.Sink.taken g.K.Sink.faults;
  going = c.requires.fine;
}

pub returns-in_err-put_left_of-clause-puts : goal.returns-in_err-put_left_of-clause-puts
returns-in_err-put_left_of-clause-puts g c =
    cut_short g.K.Sink.taken g.K.Sink.faults _ c.loop-i.invariant.so c.put_left_of.ensures.puts
    (next_left c.args.ledger.now.out c.args.ledger.now.cuts c.loop-i.i
    (subst (λ n. c.loop-i.i < n) (c.len-i-end.ensures.value ∙ ap (λ l. length l) c.cuts.ensures.value)
    c.loop-i-test.true))
    (sym c.put_left_of.ensures.answer ∙ ap is_err c.in_err-put_left_of.was)

pub loop-i-preserved : goal.loop-i-preserved
loop-i-preserved g c = record {
  so = one_more g.K.Sink.taken g.K.Sink.faults c.loop-i.invariant.so c.put_left_of.ensures.puts
      (next_left c.args.ledger.now.out c.args.ledger.now.cuts c.loop-i.i
      (subst (λ n. c.loop-i.i < n) (c.len-i-end.ensures.value ∙ ap (λ l. length l) c.cuts.ensures.value)
      c.loop-i-test.true));
  going = sym c.put_left_of.ensures.answer ∙ ap is_err c.in_ok-put_left_of.was;
}

pub returns-clause-puts : goal.returns-clause-puts
returns-clause-puts g c =
    whole_put g.K.Sink.taken g.K.Sink.faults
    (subst (λ rest. PutsFront g.K.Sink.taken g.K.Sink.faults c.args.out.now c.loop-i.out rest
    (left_lines c.args.ledger.now.out 1 c.args.ledger.now.cuts))
    (none_left c.args.ledger.now.out c.args.ledger.now.cuts c.loop-i.i
    (subst (λ n. n ≤ c.loop-i.i) (c.len-i-end.ensures.value ∙ ap (λ l. length l) c.cuts.ensures.value)
    c.loop-i-test.false))
    c.loop-i.invariant.so)
