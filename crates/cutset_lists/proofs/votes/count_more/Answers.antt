use Rattle.std.proofs.lemmas.Result.{on_ok_weaker}
use Rattle.cutset_lists.proofs.CountLemmas.{CountsMore-from}
use Rattle.cutset_lists.proofs.votes.count_more.Goals as goal

pub returns : goal.returns
returns c =
    on_ok_weaker c.add_reduced-added.result (CountsMore-from c.args.list.now c.args.counts.now.items c.args.at
    c.replace-sets.new.dest c.add_reduced-added.new.sets
    c.requires.above_none c.requires.within c.replace-sets.ensures.value c.index_mut.ensures.value c.index.ensures)
    c.add_reduced-added.ensures
