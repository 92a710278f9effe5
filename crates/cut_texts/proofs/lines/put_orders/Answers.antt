use Rattle.std.proofs.Common.{sym, ◌∙◌, ap, subst, is_err, ◌<◌, ◌≤◌, []}
use Rattle.std.specs.List.{flat_map}
use Rattle.std.proofs.lemmas.List.{drop_all}
use Rattle.cut_sequences.specs.Orders.{orders_at}
use Rattle.cut_texts.specs.CutsText.{order_line}
use Rattle.text_pieces.proofs.Putting.{begun, whole_put, one_more, cut_short, piece_named, PutsFront}
use Rattle.cut_texts.proofs.Listing.{order_spelled}
use Rattle.cut_texts.proofs.lines.put_orders.Goals as goal

pub loop-j-init : goal.loop-j-init
loop-j-init g c = record {
  so = begun g.K.Sink.taken g.K.Sink.faults;
  going = c.requires.fine;
  line = c.requires.line;
}

pub returns-in_err-put_order-clause-puts : goal.returns-in_err-put_order-clause-puts
returns-in_err-put_order-clause-puts g c =
    cut_short g.K.Sink.taken g.K.Sink.faults _ c.loop-j.invariant.so c.put_order.ensures.puts
    (piece_named (order_line c.args.listing.now.names.tree.now) (orders_at c.args.listing.now.orders.now c.args.i)
    c.loop-j.j []
    (subst (λ n. c.loop-j.j < n) c.count-j-end.ensures c.loop-j-test.true) c.order.ensures)
    (sym c.put_order.ensures.answer ∙ ap is_err c.in_err-put_order.was)

pub loop-j-preserved : goal.loop-j-preserved
loop-j-preserved g c = record {
  so = one_more g.K.Sink.taken g.K.Sink.faults c.loop-j.invariant.so c.put_order.ensures.puts
      (piece_named (order_line c.args.listing.now.names.tree.now) (orders_at c.args.listing.now.orders.now c.args.i)
      c.loop-j.j []
      (subst (λ n. c.loop-j.j < n) c.count-j-end.ensures c.loop-j-test.true) c.order.ensures);
  going = sym c.put_order.ensures.answer ∙ ap is_err c.in_ok-put_order.was;
  line = c.put_order.ensures.line;
}

pub returns-clause-puts : goal.returns-clause-puts
returns-clause-puts g c =
    whole_put g.K.Sink.taken g.K.Sink.faults
    (subst (λ l. PutsFront g.K.Sink.taken g.K.Sink.faults c.args.out.now c.loop-j.out
    (flat_map (order_line c.args.listing.now.names.tree.now) l) (flat_map (order_line c.args.listing.now.names.tree.now)
    (orders_at c.args.listing.now.orders.now c.args.i)))
    (drop_all c.loop-j.j (orders_at c.args.listing.now.orders.now c.args.i)
    (subst (λ n. n ≤ c.loop-j.j) c.count-j-end.ensures c.loop-j-test.false))
    c.loop-j.invariant.so)

pub put_order-requires-clause-spelled : goal.put_order-requires-clause-spelled
put_order-requires-clause-spelled g c =
    order_spelled c.args.i c.loop-j.j c.requires.listing c.requires.within
    (subst (λ n. c.loop-j.j < n) c.count-j-end.ensures c.loop-j-test.true) c.order.ensures
