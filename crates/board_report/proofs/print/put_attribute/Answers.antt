use Rattle.std.proofs.Common.{subst}
use Rattle.edge_io.specs.Out.{Puts}
use Rattle.edge_io.proofs.OutLemmas.{Puts-trans}
use Rattle.deck_reading.specs.Written.{attribute_word}
use Rattle.board_report.proofs.print.put_attribute.Goals as goal

pub returns-clause-puts : goal.returns-clause-puts
returns-clause-puts g c =
    Puts-trans
    (subst (λ word. Puts g.K.Sink.taken g.K.Sink.faults c.args.out.now c.put_all.new.out (attribute_word word))
    c.as_slice.ensures.bytes c.put_all.ensures.puts)
    c.put_value.ensures.puts
