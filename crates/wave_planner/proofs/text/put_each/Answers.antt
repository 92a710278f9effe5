use Rattle.std.proofs.Common.{sym, ◌∙◌, ap, subst, is_err, ◌+◌, ◌++◌, arith, [], All}
use Rattle.std.specs.List.{flat_map}
use Rattle.std.proofs.lemmas.List.{drop_all, take_all}
use Rattle.std.proofs.lemmas.List.Elements.{All-more, All-nil}
use Rattle.text_pieces.proofs.Putting.{PutsFront, begun, cut_short, left_of, next_piece, one_more, whole_put}
use Rattle.wave_planner.specs.WavesText.{HaveNames, wave_lines}
use Rattle.wave_planner.proofs.text.put_each.Goals as goal

pub loop-i-init : goal.loop-i-init
loop-i-init g c = record {
  so = begun g.K.Sink.taken g.K.Sink.faults;
  going = c.requires.fine;
  named = All-nil (HaveNames c.args.tree.now);
}

pub returns-in_err-put_wave-clause-puts : goal.returns-in_err-put_wave-clause-puts
returns-in_err-put_wave-clause-puts g c =
    cut_short g.K.Sink.taken g.K.Sink.faults _ c.loop-i.invariant.so c.put_wave.ensures.puts
    (next_piece (wave_lines c.args.tree.now) c.args.waves.now c.loop-i.i _ (omega arith)
    ∙ ap (λ w. wave_lines c.args.tree.now w ++ left_of (wave_lines c.args.tree.now) c.args.waves.now (c.loop-i.i + 1))
    (sym c.wave.ensures))
    (sym c.put_wave.ensures.answer ∙ ap is_err c.in_err-put_wave.was)

pub loop-i-preserved : goal.loop-i-preserved
loop-i-preserved g c = record {
  so = one_more g.K.Sink.taken g.K.Sink.faults c.loop-i.invariant.so c.put_wave.ensures.puts
      (next_piece (wave_lines c.args.tree.now) c.args.waves.now c.loop-i.i _ (omega arith)
      ∙ ap (λ w. wave_lines c.args.tree.now w
      ++ left_of (wave_lines c.args.tree.now) c.args.waves.now (c.loop-i.i + 1))
      (sym c.wave.ensures));
  going = sym c.put_wave.ensures.answer ∙ ap is_err c.in_ok-put_wave.was;
  named =
      All-more (HaveNames c.args.tree.now) c.args.waves.now c.loop-i.i [] (omega arith)
      c.loop-i.invariant.named (subst (HaveNames c.args.tree.now) c.wave.ensures c.in_ok-put_wave.ensures.named);
}

pub returns-clause-puts : goal.returns-clause-puts
returns-clause-puts g c =
    whole_put g.K.Sink.taken g.K.Sink.faults
    (subst (λ l. PutsFront g.K.Sink.taken g.K.Sink.faults c.args.out.now c.loop-i.out
    (flat_map (wave_lines c.args.tree.now) l) (flat_map (wave_lines c.args.tree.now) c.args.waves.now))
    (drop_all c.loop-i.i c.args.waves.now (omega arith)) c.loop-i.invariant.so)

pub returns-clause-named : goal.returns-clause-named
returns-clause-named g c =
    subst (All (HaveNames c.args.tree.now)) (take_all c.loop-i.i c.args.waves.now (omega arith))
    c.loop-i.invariant.named
