use Rattle.std.proofs.Common.{sym, subst}
use Rattle.edge_io.specs.Out.{Puts}
use Rattle.picture_engine.specs.Refusals.{refusal_line}
use Rattle.picture_engine.proofs.refusal.put_refusal.Goals as goal

pub returns-in-Usage-clause-puts : goal.returns-in-Usage-clause-puts
returns-in-Usage-clause-puts g c =
    subst (λ refusal. Puts g.K.Sink.taken g.K.Sink.faults c.args.out.now c.put.new.self (refusal_line refusal))
    (sym c.in-Usage.is) c.put.ensures.puts
