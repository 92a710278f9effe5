use Rattle.std.proofs.Common.{refl}
use Rattle.outage_engine.specs.Texts.{for_cuts}
use Rattle.outage_engine.proofs.Coming.{cuts_came, cuts_refused, unread_came}
use Rattle.outage_engine.proofs.answer.answer_cuts.Goals as goal

pub returns-in-Ok-list_tree : goal.returns-in-Ok-list_tree
returns-in-Ok-list_tree g c = record {
  came =
      cuts_came c.in-Ok.ensures.tree c.list_tree.ensures.left c.args.asked.most c.args.asked.workers
      c.in-Ok-list_tree.ensures.listed c.in-Ok-list_tree.ensures.found;
}

pub returns-in-Err-list_tree : goal.returns-in-Err-list_tree
returns-in-Err-list_tree g c = record {
  came =
      cuts_refused c.in-Ok.ensures.tree c.list_tree.ensures.left c.args.asked.most c.args.asked.workers
      c.in-Err-list_tree.end c.in-Err-list_tree.ensures.limit;
}

pub returns-in-Err : goal.returns-in-Err
returns-in-Err g c = record {
  came =
      unread_came (for_cuts c.args.asked.most) c.in-Err.end refl refl c.in-Err.ensures.refused;
}
