use Rattle.std.proofs.Common.{sym, ◌∙◌, ap, subst, arith, is_err}
use Rattle.std.specs.List.{flat_map}
use Rattle.std.proofs.lemmas.List.{drop_all}
use Rattle.text_pieces.proofs.Putting.{begun, whole_put, one_more, cut_short, next_piece, PutsFront}
use Rattle.text_pieces.proofs.pieces.put_all.Goals as goal

pub returns-in_err-put-clause-puts : goal.returns-in_err-put-clause-puts
returns-in_err-put-clause-puts g c =
    cut_short g.K.Sink.taken g.K.Sink.faults _ c.loop-piece.invariant.so c.put.ensures.puts
    (next_piece (λ piece. piece.now) c.args.pieces.now c.loop-piece.piece-index _ c.loop-piece-test.true)
    (sym c.put.ensures.answer ∙ ap is_err c.in_err-put.was)

pub loop-piece-init : goal.loop-piece-init
loop-piece-init g c = record {
  so = begun g.K.Sink.taken g.K.Sink.faults;
  going = λ some. absurd (omega (arith, some));
}

pub loop-piece-preserved : goal.loop-piece-preserved
loop-piece-preserved g c = record {
  so = one_more g.K.Sink.taken g.K.Sink.faults c.loop-piece.invariant.so c.put.ensures.puts
      (next_piece (λ piece. piece.now) c.args.pieces.now c.loop-piece.piece-index _ c.loop-piece-test.true);
  going = λ _. sym c.put.ensures.answer ∙ ap is_err c.in_ok-put.was;
}

pub returns-clause-puts : goal.returns-clause-puts
returns-clause-puts g c =
    whole_put g.K.Sink.taken g.K.Sink.faults
    (subst (λ l. PutsFront g.K.Sink.taken g.K.Sink.faults c.args.out.now c.loop-piece.out
    (flat_map (λ piece. piece.now) l) (flat_map (λ piece. piece.now) c.args.pieces.now))
    (drop_all c.loop-piece.piece-index c.args.pieces.now c.loop-piece-test.false)
    c.loop-piece.invariant.so)

pub returns-clause-answer : goal.returns-clause-answer
returns-clause-answer g c = sym (c.loop-piece.invariant.going (omega (arith, c.loop-piece-test.false, c.requires)))
