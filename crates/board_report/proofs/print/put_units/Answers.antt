use Rattle.std.proofs.Common.{sym, ◌∙◌, ap, subst, is_err, arith, ◌+◌, ◌<◌, ◌≤◌}
use Rattle.std.specs.List.{flat_map, range_with_len}
use Rattle.board_report.specs.PrintText.{IsNamedUnit, unit_line}
use Rattle.fault_definitions.specs.Tree.{unit_count}
use Rattle.text_pieces.proofs.Putting.{begun, whole_put, one_more, cut_short, PutsFront}
use Rattle.text_pieces.proofs.Counting.{all_numbers, next_number, no_number}
use Rattle.board_report.proofs.PrintLemmas.{all_named, none_named, one_more_named}
use Rattle.board_report.proofs.print.put_units.Goals as goal

pub loop-i-init : goal.loop-i-init
loop-i-init g c = record {
  so =
      subst (λ rest. PutsFront g.K.Sink.taken g.K.Sink.faults c.args.out.now c.args.out.now rest
      (flat_map (unit_line c.args.tree.now) (range_with_len 1 (unit_count c.args.tree.now))))
      (all_numbers (unit_line c.args.tree.now) 1 (unit_count c.args.tree.now))
      (begun g.K.Sink.taken g.K.Sink.faults {old = c.args.out.now}
      {whole = flat_map (unit_line c.args.tree.now) (range_with_len 1 (unit_count c.args.tree.now))});
  going = c.requires.fine;
  named = none_named (IsNamedUnit c.args.tree.now) 0;
}

pub returns-in_err-put_unit_line-clause-puts : goal.returns-in_err-put_unit_line-clause-puts
returns-in_err-put_unit_line-clause-puts g c =
    cut_short g.K.Sink.taken g.K.Sink.faults _ c.loop-i.invariant.so c.put_unit_line.ensures.puts
    (next_number (unit_line c.args.tree.now) 1 (unit_count c.args.tree.now) c.loop-i.i
    (subst (λ n. c.loop-i.i < n) c.units-i-end.ensures.count c.loop-i-test.true) (omega arith))
    (sym c.put_unit_line.ensures.answer ∙ ap is_err c.in_err-put_unit_line.was)

pub loop-i-preserved : goal.loop-i-preserved
loop-i-preserved g c = record {
  so = one_more g.K.Sink.taken g.K.Sink.faults c.loop-i.invariant.so c.put_unit_line.ensures.puts
      (next_number (unit_line c.args.tree.now) 1 (unit_count c.args.tree.now) c.loop-i.i
      (subst (λ n. c.loop-i.i < n) c.units-i-end.ensures.count c.loop-i-test.true) (omega arith));
  going = sym c.put_unit_line.ensures.answer ∙ ap is_err c.in_ok-put_unit_line.was;
  named = one_more_named (IsNamedUnit c.args.tree.now) 0 c.loop-i.i (c.loop-i.i + 1)
      (omega arith) c.loop-i.invariant.named c.put_unit_line.ensures.named;
}

pub returns-clause-puts : goal.returns-clause-puts
returns-clause-puts g c =
    whole_put g.K.Sink.taken g.K.Sink.faults
    (subst (λ rest. PutsFront g.K.Sink.taken g.K.Sink.faults c.args.out.now c.loop-i.out rest
    (flat_map (unit_line c.args.tree.now) (range_with_len 1 (unit_count c.args.tree.now))))
    (no_number (unit_line c.args.tree.now) 1 (unit_count c.args.tree.now) c.loop-i.i
    (subst (λ n. n ≤ c.loop-i.i) c.units-i-end.ensures.count c.loop-i-test.false))
    c.loop-i.invariant.so)

pub returns-clause-named : goal.returns-clause-named
returns-clause-named g c = λ unit is.
    all_named (IsNamedUnit c.args.tree.now) 0 (unit_count c.args.tree.now) c.loop-i.i
    (subst (λ n. n ≤ c.loop-i.i) c.units-i-end.ensures.count c.loop-i-test.false) c.loop-i.invariant.named unit
    (omega arith, omega arith)
