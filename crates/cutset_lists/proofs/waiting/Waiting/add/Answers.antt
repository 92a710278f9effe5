use Rattle.std.proofs.Common.{rules, refl}
use Rattle.cutset_lists.proofs.WaitingLemmas.{one_more-step}
use Rattle.cutset_lists.proofs.waiting.Waiting.add.Goals as goal

pub returns-clause-waiting : goal.returns-clause-waiting
returns-clause-waiting c =
    let ready = c.requires.waiting in
    let units = c.args.self.now.all_units in
    record {
      wait =
          one_more-step _
          c.requires.inside (search rules) c.number-2.ensures.value c.row-set.ensures c.least_crowded-home.ensures
          c.least_crowded-sign.ensures refl c.index_mut.ensures.value c.in_ok-push.ensures.added ready.wait;
      none_marked = ready.none_marked;
    }
