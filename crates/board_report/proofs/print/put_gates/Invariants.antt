use Rattle.std.proofs.Common.{◌≡◌, ◌+◌, ◌-◌, false, true}
use Rattle.std.specs.List.{flat_map, range_with_len}
use Rattle.edge_io.specs.Out.{has_failed}
use Rattle.board_report.specs.PrintText.{gate_line}
use Rattle.fault_words.specs.Name.{is_name}
use Rattle.fault_definitions.specs.Tree.{name_of, unit_count, gate_count}
use Rattle.board_report.proofs.PrintLemmas.{NamedUpTo}
use Rattle.text_pieces.proofs.Putting.{PutsFront}
use Rattle.board_report.proofs.print.put_gates.Given as goal

abbrev pub invariant-loop-i : goal.invariant-loop-i
invariant-loop-i g l = record {
  so : PutsFront g.K.Sink.taken g.K.Sink.faults l.initial.out l.out
      (flat_map (gate_line l.tree) (range_with_len ((unit_count l.tree + 1) + l.i) ((gate_count l.tree) - l.i)))
      (flat_map (gate_line l.tree) (range_with_len (unit_count l.tree + 1) (gate_count l.tree)));
  going : has_failed l.out ≡ false;
  named : NamedUpTo (λ gate. is_name (name_of l.tree gate) ≡ true) (unit_count l.tree) (unit_count l.tree + l.i);
}
