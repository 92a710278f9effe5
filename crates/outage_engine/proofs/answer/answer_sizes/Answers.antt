use Rattle.std.proofs.Common.{refl}
use Rattle.outage_engine.specs.Texts.{for_diagram}
use Rattle.outage_engine.proofs.Coming.{sizes_came, sizes_refused, unread_came}
use Rattle.outage_engine.proofs.answer.answer_sizes.Goals as goal

pub returns-in-Ok-count_cuts : goal.returns-in-Ok-count_cuts
returns-in-Ok-count_cuts g c = record {
  came =
      sizes_came c.in-Ok.ensures.tree c.count_cuts.ensures.left c.args.workers c.in-Ok-count_cuts.ensures.counts
      c.in-Ok-count_cuts.ensures.found;
}

pub returns-in-Err-count_cuts : goal.returns-in-Err-count_cuts
returns-in-Err-count_cuts g c = record {
  came =
      sizes_refused c.in-Ok.ensures.tree c.count_cuts.ensures.left c.args.workers
      c.in-Err-count_cuts.end c.in-Err-count_cuts.ensures.limit;
}

pub returns-in-Err : goal.returns-in-Err
returns-in-Err g c = record {
  came = unread_came for_diagram c.in-Err.end refl refl c.in-Err.ensures.refused;
}
