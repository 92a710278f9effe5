use Rattle.std.proofs.Common.{subst}
use Rattle.edge_io.specs.Out.{Puts}
use Rattle.board_report.specs.CheckText.{check_text}
use Rattle.outage_engine.proofs.Telling.{check_of}
use Rattle.outage_engine.proofs.tell.put_deck.Goals as goal

pub returns-clause-puts : goal.returns-clause-puts
returns-clause-puts g c =
    subst (λ crews. Puts g.K.Sink.taken g.K.Sink.faults c.args.out.now c.put_check.new.out
    (check_text c.args.deck.now.tree crews)) c.as_ref.ensures.value
    (check_of c.args.deck.now.tree (Puts g.K.Sink.taken g.K.Sink.faults c.args.out.now c.put_check.new.out)
    c.as_ref.result c.put_check.ensures.puts)
