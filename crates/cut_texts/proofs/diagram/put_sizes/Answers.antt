use Rattle.text_pieces.proofs.Putting.{all_three}
use Rattle.cut_texts.proofs.Listing.{counts_put}
use Rattle.cut_texts.proofs.diagram.put_sizes.Goals as goal

pub returns-clause-puts : goal.returns-clause-puts
returns-clause-puts g c =
    all_three g.K.Sink.taken g.K.Sink.faults c.put_method.new.out
    c.put_titled_line.ensures.puts c.put_method.ensures.puts (counts_put c.args.cuts c.args.members
    c.put_two.ensures.puts)
