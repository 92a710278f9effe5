use Rattle.std.proofs.Common.{◌≡◌, false}
use Rattle.std.specs.List.{flat_map}
use Rattle.edge_io.specs.Out.{has_failed}
use Rattle.text_pieces.proofs.Putting.{PutsFront, left_of}
use Rattle.tree_picture.specs.PictureText.{input_text}
use Rattle.tree_picture.proofs.picture.put_inputs.Given as goal

abbrev pub invariant-loop-input : goal.invariant-loop-input
invariant-loop-input g l = record {
  so : PutsFront g.K.Sink.taken g.K.Sink.faults l.initial.out l.out
      (left_of (input_text l.tree l.gate) l.inputs l.input-index) (flat_map (input_text l.tree l.gate) l.inputs);
  going : has_failed l.out ≡ false;
}
