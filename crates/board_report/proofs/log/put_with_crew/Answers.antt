use Rattle.std.proofs.Common.{subst}
use Rattle.edge_io.specs.Out.{Puts}
use Rattle.edge_io.proofs.OutLemmas.{Puts-trans}
use Rattle.text_pieces.specs.Shown.{show}
use Rattle.board_report.proofs.log.put_with_crew.Goals as goal

pub returns : goal.returns
returns g c =
    Puts-trans c.put.ensures.puts
    (subst (λ name. Puts g.K.Sink.taken g.K.Sink.faults c.put.new.self c.put_shown.new.out (show name))
    c.crew_name.ensures c.put_shown.ensures.puts)
