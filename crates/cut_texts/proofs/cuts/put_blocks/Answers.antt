use Rattle.std.proofs.Common.{sym, ◌∙◌, ap, subst, is_err, codes, ◌<◌, ◌≤◌}
use Rattle.cut_texts.specs.CutsText.{cut_blocks, cut_number, listed_with}
use Rattle.text_pieces.proofs.Putting.{begun, whole_put, one_more, cut_short, PutsFront}
use Rattle.cut_texts.proofs.Listing.{next_block, no_block}
use Rattle.cut_texts.proofs.cuts.put_blocks.Goals as goal

pub loop-i-init : goal.loop-i-init
loop-i-init g c = record {
  so = begun g.K.Sink.taken g.K.Sink.faults;
  going = c.requires.fine;
  line = c.line-line.ensures c.args.listing.now.names.tree.now (cut_number 0);
  order_line = c.line-order_line.ensures c.args.listing.now.names.tree.now (codes " ");
}

pub returns-in_err-put_block-clause-puts : goal.returns-in_err-put_block-clause-puts
returns-in_err-put_block-clause-puts g c =
    cut_short g.K.Sink.taken g.K.Sink.faults _ c.loop-i.invariant.so c.put_block.ensures.puts
    (next_block c.args.listing.now.names.tree.now c.args.listing.now.cuts.now c.args.listing.now.orders.now c.loop-i.i
    c.requires.listing.made.each (subst (λ n. c.loop-i.i < n) c.len-i-end.ensures.value c.loop-i-test.true))
    (sym c.put_block.ensures.answer ∙ ap is_err c.in_err-put_block.was)

pub loop-i-preserved : goal.loop-i-preserved
loop-i-preserved g c = record {
  so = one_more g.K.Sink.taken g.K.Sink.faults c.loop-i.invariant.so c.put_block.ensures.puts
      (next_block c.args.listing.now.names.tree.now c.args.listing.now.cuts.now c.args.listing.now.orders.now c.loop-i.i
      c.requires.listing.made.each (subst (λ n. c.loop-i.i < n) c.len-i-end.ensures.value c.loop-i-test.true));
  going = sym c.put_block.ensures.answer ∙ ap is_err c.in_ok-put_block.was;
  line = c.put_block.ensures.line;
  order_line = c.put_block.ensures.order_line;
}

pub returns-clause-puts : goal.returns-clause-puts
returns-clause-puts g c =
    whole_put g.K.Sink.taken g.K.Sink.faults
    (subst (λ rest. PutsFront g.K.Sink.taken g.K.Sink.faults c.args.out.now c.loop-i.out rest
    (cut_blocks c.args.listing.now.names.tree.now 1
    (listed_with c.args.listing.now.cuts.now c.args.listing.now.orders.now)))
    (no_block c.args.listing.now.names.tree.now c.args.listing.now.cuts.now c.args.listing.now.orders.now c.loop-i.i
    c.requires.listing.made.each (subst (λ n. n ≤ c.loop-i.i) c.len-i-end.ensures.value c.loop-i-test.false))
    c.loop-i.invariant.so)
