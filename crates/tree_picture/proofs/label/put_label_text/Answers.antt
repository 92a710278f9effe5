use Rattle.std.proofs.Common.{sym, ◌∙◌, ap, subst, is_err}
use Rattle.std.proofs.lemmas.List.{drop_all}
use Rattle.text_pieces.proofs.Putting.{begun, whole_put, one_more, cut_short, next_piece, PutsFront}
use Rattle.tree_picture.specs.Labels.{label_byte, label_text}
use Rattle.tree_picture.proofs.label.put_label_text.Goals as goal

pub loop-byte-init : goal.loop-byte-init
loop-byte-init g c = record {
  so = begun g.K.Sink.taken g.K.Sink.faults;
  going = c.requires.fine;
}

pub returns-in_err-put_label_byte-clause-puts : goal.returns-in_err-put_label_byte-clause-puts
returns-in_err-put_label_byte-clause-puts g c =
    cut_short g.K.Sink.taken g.K.Sink.faults _ c.loop-byte.invariant.so c.put_label_byte.ensures.puts
    (next_piece label_byte c.args.text.now c.loop-byte.byte-index 0 c.loop-byte-test.true)
    (sym c.put_label_byte.ensures.answer ∙ ap is_err c.in_err-put_label_byte.was)

pub loop-byte-preserved : goal.loop-byte-preserved
loop-byte-preserved g c = record {
  so = one_more g.K.Sink.taken g.K.Sink.faults c.loop-byte.invariant.so c.put_label_byte.ensures.puts
      (next_piece label_byte c.args.text.now c.loop-byte.byte-index 0 c.loop-byte-test.true);
  going = sym c.put_label_byte.ensures.answer ∙ ap is_err c.in_ok-put_label_byte.was;
}

pub returns-clause-puts : goal.returns-clause-puts
returns-clause-puts g c =
    whole_put g.K.Sink.taken g.K.Sink.faults
    (subst (λ l. PutsFront g.K.Sink.taken g.K.Sink.faults c.args.out.now c.loop-byte.out (label_text l)
    (label_text c.args.text.now))
    (drop_all c.loop-byte.byte-index c.args.text.now c.loop-byte-test.false)
    c.loop-byte.invariant.so)
