use Rattle.std.proofs.Common.{subst}
use Rattle.edge_io.specs.Out.{Puts}
use Rattle.deck_reading.specs.Written.{attribute_text, quoted}
use Rattle.std.specs.List.{flat_map}
use Rattle.text_pieces.proofs.Putting.{all_three}
use Rattle.board_report.proofs.print.put_unit_line.Goals as goal

pub returns-clause-puts : goal.returns-clause-puts
returns-clause-puts g c =
    all_three g.K.Sink.taken g.K.Sink.faults c.put_attributes.new.out
    (subst (λ name. Puts g.K.Sink.taken g.K.Sink.faults c.args.out.now c.put_quoted.new.out (quoted name))
    c.node_name.ensures c.put_quoted.ensures.puts)
    (subst (λ attributes. Puts g.K.Sink.taken g.K.Sink.faults c.put_quoted.new.out c.put_attributes.new.out
    (flat_map attribute_text attributes)) c.attributes_at.ensures c.put_attributes.ensures.puts)
    c.put.ensures.puts
