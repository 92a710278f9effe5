use Rattle.std.proofs.Common.{refl}
use Rattle.edge_io.proofs.OutLemmas.{Puts-finished}
use Rattle.outage_engine.proofs.Telling.{told_front, told_whole}
use Rattle.outage_engine.proofs.tell.finish.Goals as goal

pub returns-in-Ok : goal.returns-in-Ok
returns-in-Ok g c = record {
  told = λ new text none fine puts.
      told_whole _ c.args.status c.in-Ok.is (Puts-finished c.finish.result none fine puts
      c.finish.ensures.all c.finish.ensures.front.1 c.finish.ensures.rose c.finish.ensures.stopped
      c.finish.ensures.never_falls)
      refl;
}

pub returns-in-Err : goal.returns-in-Err
returns-in-Err g c = record {
  told = λ new text none fine puts.
      told_front _ c.args.status c.in-Err.is (Puts-finished c.finish.result none fine puts
      c.finish.ensures.all c.finish.ensures.front.1 c.finish.ensures.rose c.finish.ensures.stopped
      c.finish.ensures.never_falls);
}
