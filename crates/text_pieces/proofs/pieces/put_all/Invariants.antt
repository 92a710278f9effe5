use Rattle.std.proofs.Common.{◌≡◌, ◌<◌, false}
use Rattle.std.specs.List.{flat_map}
use Rattle.edge_io.specs.Out.{has_failed}
use Rattle.text_pieces.proofs.Putting.{PutsFront, left_of}
use Rattle.text_pieces.proofs.pieces.put_all.Given as goal

abbrev pub invariant-loop-piece : goal.invariant-loop-piece
invariant-loop-piece g l = record {
  so : PutsFront g.K.Sink.taken g.K.Sink.faults l.initial.out l.out
      (left_of (λ piece. piece.now) l.pieces l.piece-index) (flat_map (λ piece. piece.now) l.pieces);
  going : 0 < l.piece-index → has_failed l.out ≡ false;
}
