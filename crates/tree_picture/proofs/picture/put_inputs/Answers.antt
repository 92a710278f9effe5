use Rattle.std.proofs.Common.{sym, ◌∙◌, ap, subst, is_err}
use Rattle.std.specs.List.{flat_map}
use Rattle.std.proofs.lemmas.List.{drop_all}
use Rattle.text_pieces.proofs.Putting.{PutsFront, begun, cut_short, one_more, piece_named, whole_put}
use Rattle.tree_picture.specs.PictureText.{input_text}
use Rattle.tree_picture.proofs.picture.put_inputs.Goals as goal

pub loop-input-init : goal.loop-input-init
loop-input-init g c = record {
  so = begun g.K.Sink.taken g.K.Sink.faults;
  going = c.requires.fine;
}

pub returns-in_err-put_input-clause-puts : goal.returns-in_err-put_input-clause-puts
returns-in_err-put_input-clause-puts g c =
    cut_short g.K.Sink.taken g.K.Sink.faults _ c.loop-input.invariant.so c.put_input.ensures.puts
    (piece_named (input_text c.args.tree.now c.args.gate) c.args.inputs.now c.loop-input.input-index
    c.input-item.result c.loop-input-test.true c.input-item.is)
    (sym c.put_input.ensures.answer ∙ ap is_err c.in_err-put_input.was)

pub loop-input-preserved : goal.loop-input-preserved
loop-input-preserved g c = record {
  so = one_more g.K.Sink.taken g.K.Sink.faults c.loop-input.invariant.so c.put_input.ensures.puts
      (piece_named (input_text c.args.tree.now c.args.gate) c.args.inputs.now c.loop-input.input-index
      c.input-item.result c.loop-input-test.true c.input-item.is);
  going = sym c.put_input.ensures.answer ∙ ap is_err c.in_ok-put_input.was;
}

pub returns-clause-puts : goal.returns-clause-puts
returns-clause-puts g c =
    whole_put g.K.Sink.taken g.K.Sink.faults
    (subst (λ l. PutsFront g.K.Sink.taken g.K.Sink.faults c.args.out.now c.loop-input.out (flat_map (input_text
    c.args.tree.now c.args.gate) l)
    (flat_map (input_text c.args.tree.now c.args.gate) c.args.inputs.now))
    (drop_all c.loop-input.input-index c.args.inputs.now c.loop-input-test.false)
    c.loop-input.invariant.so)
