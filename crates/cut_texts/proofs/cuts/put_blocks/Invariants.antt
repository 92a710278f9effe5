use Rattle.std.proofs.Common.{◌≡◌, ◌+◌, codes, false, drop}
use Rattle.edge_io.specs.Out.{has_failed}
use Rattle.cut_texts.specs.CutsText.{cut_blocks, cut_number, listed_with}
use Rattle.cut_texts.specs.Lines.{IsLine}
use Rattle.text_pieces.proofs.Putting.{PutsFront}
use Rattle.cut_texts.proofs.cuts.put_blocks.Given as goal

abbrev pub invariant-loop-i : goal.invariant-loop-i
invariant-loop-i g l = record {
  so : PutsFront g.K.Sink.taken g.K.Sink.faults l.initial.out l.out
      (cut_blocks l.listing.names.tree.now (l.i + 1) (drop l.i (listed_with l.listing.cuts.now l.listing.orders.now)))
      (cut_blocks l.listing.names.tree.now 1 (listed_with l.listing.cuts.now l.listing.orders.now));
  going : has_failed l.out ≡ false;
  line : IsLine l.listing.names.tree.now (cut_number l.i) l.line;
  order_line : IsLine l.listing.names.tree.now (codes " ") l.order_line;
}
