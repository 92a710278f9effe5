use Rattle.std.proofs.Common.{◌≡◌, false}
use Rattle.edge_io.specs.Out.{has_failed}
use Rattle.text_pieces.proofs.Putting.{PutsFront, left_of}
use Rattle.tree_picture.specs.Labels.{label_byte, label_text}
use Rattle.tree_picture.proofs.label.put_label_text.Given as goal

abbrev pub invariant-loop-byte : goal.invariant-loop-byte
invariant-loop-byte g l = record {
  so : PutsFront g.K.Sink.taken g.K.Sink.faults l.initial.out l.out (left_of label_byte l.text l.byte-index)
      (label_text l.text);
  going : has_failed l.out ≡ false;
}
