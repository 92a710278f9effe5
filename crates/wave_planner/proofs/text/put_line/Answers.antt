use Rattle.std.proofs.Common.{subst}
use Rattle.edge_io.specs.Out.{Puts}
use Rattle.text_pieces.specs.Shown.{named}
use Rattle.text_pieces.proofs.Putting.{all_three}
use Rattle.wave_planner.proofs.text.put_line.Goals as goal

pub returns-clause-puts : goal.returns-clause-puts
returns-clause-puts g c =
    all_three g.K.Sink.taken g.K.Sink.faults c.put_named.new.out c.put.ensures.puts
    (subst (λ name. Puts g.K.Sink.taken g.K.Sink.faults c.put.new.self c.put_named.new.out (named name))
    c.unit_name.ensures.name c.put_named.ensures.puts)
    c.put-2.ensures.puts
