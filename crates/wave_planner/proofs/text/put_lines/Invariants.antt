use Rattle.std.proofs.Common.{◌≡◌, false, take}
use Rattle.edge_io.specs.Out.{has_failed}
use Rattle.text_pieces.proofs.Putting.{PutsFront, left_of}
use Rattle.wave_planner.specs.WavesText.{HaveNames, unit_line, unit_lines}
use Rattle.wave_planner.proofs.text.put_lines.Given as goal

abbrev pub invariant-loop-unit : goal.invariant-loop-unit
invariant-loop-unit g l = record {
  so : PutsFront g.K.Sink.taken g.K.Sink.faults l.initial.out l.out
      (left_of (unit_line l.word l.tree) l.wave l.unit-index) (unit_lines l.word l.tree l.wave);
  going : has_failed l.out ≡ false;
  named : HaveNames l.tree (take l.unit-index l.wave);
}
