use Rattle.std.proofs.Common.{◌≡◌, false, codes}
use Rattle.std.specs.List.{flat_map}
use Rattle.cut_sequences.specs.Orders.{orders_at}
use Rattle.edge_io.specs.Out.{has_failed}
use Rattle.cut_texts.specs.{Lines.IsLine, CutsText.order_line}
use Rattle.text_pieces.proofs.Putting.{PutsFront, left_of}
use Rattle.cut_texts.proofs.lines.put_orders.Given as goal

abbrev pub invariant-loop-j : goal.invariant-loop-j
invariant-loop-j g l = record {
  so : PutsFront g.K.Sink.taken g.K.Sink.faults l.initial.out l.out
      (left_of (order_line l.listing.names.tree.now) (orders_at l.listing.orders.now l.i) l.j)
      (flat_map (order_line l.listing.names.tree.now) (orders_at l.listing.orders.now l.i));
  going : has_failed l.out ≡ false;
  line : IsLine l.listing.names.tree.now (codes " ") l.line;
}
