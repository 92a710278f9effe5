use Rattle.std.proofs.Common.{◌≡◌, ◌+◌, ◌-◌, false}
use Rattle.std.specs.List.{flat_map, range_with_len}
use Rattle.edge_io.specs.Out.{has_failed}
use Rattle.fault_definitions.specs.Tree.{unit_count}
use Rattle.text_pieces.proofs.Putting.{PutsFront}
use Rattle.tree_picture.specs.PictureText.{unit_text}
use Rattle.tree_picture.proofs.picture.put_units.Given as goal

abbrev pub invariant-loop-i : goal.invariant-loop-i
invariant-loop-i g l = record {
  so : PutsFront g.K.Sink.taken g.K.Sink.faults l.initial.out l.out
      (flat_map (unit_text l.tree l.marked) (range_with_len ((1) + l.i) (unit_count l.tree - l.i)))
      (flat_map (unit_text l.tree l.marked) (range_with_len (1) (unit_count l.tree)));
  going : has_failed l.out ≡ false;
}
