use Rattle.std.proofs.Common.{subst}
use Rattle.edge_io.specs.Out.{Puts}
use Rattle.text_pieces.specs.Shown.{show}
use Rattle.text_pieces.proofs.Putting.{all_three}
use Rattle.cut_texts.proofs.Listing.{counted}
use Rattle.cut_texts.proofs.cuts.put_titled_line.Goals as goal

pub returns-clause-puts : goal.returns-clause-puts
returns-clause-puts g c =
    all_three g.K.Sink.taken g.K.Sink.faults c.put_shown.new.out
    (counted c.args.title.now c.args.tree.now c.units.ensures.count c.gates.ensures.count c.put_two.ensures.puts)
    (subst (λ name. Puts g.K.Sink.taken g.K.Sink.faults c.put_two.new.out c.put_shown.new.out (show name))
    c.top_name.ensures c.put_shown.ensures.puts)
    c.put.ensures.puts
