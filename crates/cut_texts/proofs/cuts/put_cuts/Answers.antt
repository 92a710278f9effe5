use Rattle.std.proofs.Common.{sym, ◌∙◌, ap, subst, is_err}
use Rattle.edge_io.specs.Out.{Puts}
use Rattle.cut_texts.specs.CutsText.{cut_blocks, listed_with}
use Rattle.text_pieces.proofs.Putting.{second_short, all_three}
use Rattle.cut_texts.proofs.Listing.{counts_with}
use Rattle.cut_texts.proofs.cuts.put_cuts.Goals as goal

pub returns-in_err-put_count_line-clause-puts : goal.returns-in_err-put_count_line-clause-puts
returns-in_err-put_count_line-clause-puts g c =
    let listed = listed_with c.args.cuts.now c.args.orders.now in
    second_short g.K.Sink.taken g.K.Sink.faults (cut_blocks c.args.tree.now 1 listed) c.put_titled_line.ensures.puts
    (subst (Puts g.K.Sink.taken g.K.Sink.faults c.put_titled_line.new.out c.put_count_line.new.out)
    (counts_with c.args.cuts.now c.args.orders.now c.requires.made.each c.len.ensures.value
    c.total.ensures) c.put_count_line.ensures.puts)
    (sym c.put_count_line.ensures.answer ∙ ap is_err c.in_err-put_count_line.was)

pub returns-clause-puts : goal.returns-clause-puts
returns-clause-puts g c =
    let listed = listed_with c.args.cuts.now c.args.orders.now in
    all_three g.K.Sink.taken g.K.Sink.faults c.put_count_line.new.out c.put_titled_line.ensures.puts
    (subst (Puts g.K.Sink.taken g.K.Sink.faults c.put_titled_line.new.out c.put_count_line.new.out)
    (counts_with c.args.cuts.now c.args.orders.now c.requires.made.each c.len.ensures.value
    c.total.ensures) c.put_count_line.ensures.puts)
    c.put_blocks.ensures.puts
