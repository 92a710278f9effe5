use Rattle.std.proofs.Common.{◌≡◌, false, take, All}
use Rattle.std.specs.List.{flat_map}
use Rattle.edge_io.specs.Out.{has_failed}
use Rattle.text_pieces.proofs.Putting.{PutsFront, left_of}
use Rattle.wave_planner.specs.WavesText.{HaveNames, wave_lines}
use Rattle.wave_planner.proofs.text.put_each.Given as goal

abbrev pub invariant-loop-i : goal.invariant-loop-i
invariant-loop-i g l = record {
  so : PutsFront g.K.Sink.taken g.K.Sink.faults l.initial.out l.out (left_of (wave_lines l.tree) l.waves l.i)
      (flat_map (wave_lines l.tree) l.waves);
  going : has_failed l.out ≡ false;
  named : All (HaveNames l.tree) (take l.i l.waves);
}
