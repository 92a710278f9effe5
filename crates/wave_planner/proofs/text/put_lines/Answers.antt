use Rattle.std.proofs.Common.{◌≡◌, ℕ, true, sym, ◌∙◌, ap, subst, is_err}
use Rattle.std.specs.List.{flat_map}
use Rattle.std.proofs.lemmas.List.{drop_all, take_all}
use Rattle.std.proofs.lemmas.List.Elements.{All-more, All-nil}
use Rattle.fault_words.specs.Name.{is_name}
use Rattle.fault_definitions.specs.Tree.{FaultTree, name_of}
use Rattle.text_pieces.proofs.Putting.{PutsFront, begun, cut_short, one_more, piece_named, whole_put}
use Rattle.wave_planner.specs.WavesText.{HaveNames, unit_line}
use Rattle.wave_planner.proofs.text.put_lines.Goals as goal

abbrev named_in : FaultTree → ℕ → Type 0
named_in tree unit = is_name (name_of tree unit) ≡ true

pub loop-unit-init : goal.loop-unit-init
loop-unit-init g c = record {
  so = begun g.K.Sink.taken g.K.Sink.faults;
  going = c.requires.fine;
  named = All-nil (named_in c.args.tree.now);
}

pub returns-in_err-put_line-clause-puts : goal.returns-in_err-put_line-clause-puts
returns-in_err-put_line-clause-puts g c =
    cut_short g.K.Sink.taken g.K.Sink.faults _ c.loop-unit.invariant.so c.put_line.ensures.puts
    (piece_named (unit_line c.args.word.now c.args.tree.now) c.args.wave.now c.loop-unit.unit-index _
    c.loop-unit-test.true c.unit-item.is)
    (sym c.put_line.ensures.answer ∙ ap is_err c.in_err-put_line.was)

pub loop-unit-preserved : goal.loop-unit-preserved
loop-unit-preserved g c = record {
  so = one_more g.K.Sink.taken g.K.Sink.faults c.loop-unit.invariant.so c.put_line.ensures.puts
      (piece_named (unit_line c.args.word.now c.args.tree.now) c.args.wave.now c.loop-unit.unit-index _
      c.loop-unit-test.true c.unit-item.is);
  going = sym c.put_line.ensures.answer ∙ ap is_err c.in_ok-put_line.was;
  named =
      All-more (named_in c.args.tree.now) c.args.wave.now c.loop-unit.unit-index c.unit-item.result
      c.loop-unit-test.true c.loop-unit.invariant.named
      (subst (named_in c.args.tree.now) c.unit-item.is c.put_line.ensures.named);
}

pub returns-clause-puts : goal.returns-clause-puts
returns-clause-puts g c =
    whole_put g.K.Sink.taken g.K.Sink.faults
    (subst (λ l. PutsFront g.K.Sink.taken g.K.Sink.faults c.args.out.now c.loop-unit.out
    (flat_map (unit_line c.args.word.now c.args.tree.now) l)
    (flat_map (unit_line c.args.word.now c.args.tree.now) c.args.wave.now))
    (drop_all c.loop-unit.unit-index c.args.wave.now c.loop-unit-test.false) c.loop-unit.invariant.so)

pub returns-clause-named : goal.returns-clause-named
returns-clause-named g c =
    subst (HaveNames c.args.tree.now)
    (take_all c.loop-unit.unit-index c.args.wave.now c.loop-unit-test.false) c.loop-unit.invariant.named
