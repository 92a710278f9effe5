use Rattle.std.proofs.lemmas.Result.{on_ok_weaker}
use Rattle.cutset_lists.proofs.SplitLemmas.{AddsProduct-split}
use Rattle.cutset_lists.proofs.product.add_split.Goals as goal

pub returns : goal.returns
returns c =
    on_ok_weaker c.add_all_unions.result (AddsProduct-split c.args.left.now c.args.right.now c.args.sets.now
    c.split.new.including c.split-2.new.including c.add_all_unions.new.sets c.split.new.rest c.split-2.new.rest
    c.in_ok-split.ensures c.in_ok-split-2.ensures) c.add_all_unions.ensures
